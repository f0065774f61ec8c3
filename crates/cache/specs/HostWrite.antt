-- Host write, as in 01 (the agreed scope; docs/RULES.md has its rules): bytes go into the window, and the reply is their number. It
-- takes neither state nor store.
use Rattle.std.specs.Prelude.{ℕ, List, [], ◌∷◌, cond, length}
use Rattle.octets.specs.Lists.{overwrite}
use Rattle.state.specs.Verdict.{Reply, replied, accepted, Check, verdict}
use Rattle.state.specs.Checks.{length_too_long, window_too_long, outside_window}

-- n is how many bytes are given
module _ (window_len a n : ℕ) where
  -- 4, 7, 9
  abbrev pub host_checks : List Check
  host_checks = length_too_long n ∷ window_too_long window_len ∷ outside_window window_len a n ∷ []

  unfoldable pub host_says : Reply
  host_says = verdict host_checks (replied (n ∷ []))

unfoldable pub host_window : (window : List ℕ) (a : ℕ) (bytes : List ℕ) → List ℕ
host_window window a bytes = cond (accepted (host_says (length window) a (length bytes))) (overwrite window a bytes) window
