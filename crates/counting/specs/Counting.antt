-- Counts as a message tells them.
use Rattle.std.specs.Prelude.{ℕ, ◌+◌, List, [], ◌++◌, Bool, cond, leb, eqb}
use Rattle.octets.specs.Text.{ascii}
use Rattle.text.specs.Decimal.{decimal}

-- a number and what it counts, in the plural where it is not one
unfoldable pub counted : ℕ → (noun : List ℕ) → List ℕ
counted n noun = decimal n ++ (ascii " " ++ (noun ++ cond (eqb n 1) [] (ascii "s")))

-- a run: its frames, those that were carried out, those that a call refused, and whether an unreadable one ended it
unfoldable pub told : (frames carried refused : ℕ) (early : Bool) → List ℕ
told frames carried refused early =
    counted frames (ascii "frame")
    ++ (ascii ", " ++ (decimal carried ++ (ascii " ok, " ++ (decimal refused ++ (ascii " refused" ++ cond early (ascii ", 1 unreadable") [])))))

-- from which one on what is written was lost, where not all were kept
unfoldable pub lost : (words : List ℕ) (all kept : ℕ) → List ℕ
lost words all kept = cond (leb all kept) [] (words ++ (decimal (kept + 1) ++ ascii " on"))
