-- A frame in words, as `explain` says it: what its step asks, and why it was refused.
use Rattle.std.specs.Prelude.{ℕ, List, ◌++◌}
use Rattle.octets.specs.Text.{ascii}
use Rattle.state.specs.declared.refusal.Refusal.{Refusal}
use Rattle.state.specs.Refusals.{number}
use Rattle.text.specs.Decimal.{decimal}
use Rattle.reasons.specs.Reasons.{reason}
use Rattle.frames.specs.declared.Step.{Step}
use Rattle.frames.specs.declared.Step.TheVariants.{Begin, Fetch, End, HostWrite, OwnWrite}

-- an address and a length
abbrev pub span : (a n : ℕ) → List ℕ
span a n = decimal a ++ (ascii "+" ++ decimal n)

-- what a command does
abbrev pub act : (c : ℕ) → List ℕ → List ℕ
act c words = (ascii "command " ++ decimal c) ++ words

-- what a step asks
abbrev pub asked : Step → List ℕ
asked (Begin c) = act c (ascii " begins")
asked (Fetch c a n) = act c (ascii " fetches ") ++ span a n
asked (End c) = act c (ascii " ends")
asked (HostWrite a n) = ascii "the host writes " ++ span a n
asked (OwnWrite c a n) = act c (ascii " writes ") ++ span a n

-- why it was refused: the number in brackets, and the reason
abbrev pub turned_away : Refusal → List ℕ
turned_away r = ascii ": refused (" ++ (decimal (number r) ++ (ascii "): " ++ ascii (reason r)))
