-- Where the expectation of a line stands, and answers with expectations that they meet, and others that they do not.
use Prim.Native.Nat.{ℕ}
use Prim.Native.String.{String}
use mathlib.Core.Path.{◌≡◌, refl}
use mathlib.Core.List.{List, [], ◌∷◌, map}
use mathlib.Core.Bool.{Bool, true, not, ◌&&◌}
use Rattle.octets.specs.Lists.{all}
use Rattle.octets.specs.Text.{ascii}
use Rattle.expect.specs.declared.Span.{Span}
use Rattle.scan.specs.Scan.{before, front}
use Rattle.expect.specs.Expect.{expected, words_on, words_of, lower, same, is_verdict, delivers, meets_words, meets}

abbrev span : (start end : ℕ) → Span
span start end = record { start = start; end = end }

places :
    map (λ s. expected (ascii s)) ("B 1 = ok # x" ∷ "B 1=ok" ∷ "B 1 =" ∷ "B 1 # = ok" ∷ "" ∷ [])
    ≡ span 5 9 ∷ span 4 6 ∷ span 5 5 ∷ span 4 4 ∷ span 0 0 ∷ []
unfolding before expected
places = refl

words : words_of (ascii " ok\t8  1 ") ≡ map ascii ("ok" ∷ "8" ∷ "1" ∷ [])
unfolding words_on
words = refl

abbrev meet : (expectations : List String) (answer : String) → Bool
meet expectations answer = all (λ s. meets (ascii s) (ascii answer)) expectations

abbrev fail : (expectations : List String) (answer : String) → Bool
fail expectations answer = all (λ s. not (meets (ascii s) (ascii answer))) expectations

fetched : meet (" ok" ∷ "ok 8" ∷ "OK  8\t1 " ∷ "ok 8 1 0400AB" ∷ "0400ab" ∷ "0400AB" ∷ []) "ok 8 1 0400ab" ≡ true
unfolding all front words_on lower same is_verdict delivers meets_words
fetched = refl

otherwise_fetched : fail ("no" ∷ "ok 1" ∷ "ok 8 1 04" ∷ "ok 8 1 0400ab 0" ∷ "0400" ∷ "0400ab 0" ∷ "8" ∷ "" ∷ []) "ok 8 1 0400ab" ≡ true
unfolding all front words_on lower same is_verdict delivers meets_words
otherwise_fetched = refl

-- an answer to a fetch of no bytes shows a dash
none_fetched : meet ("ok 0 0 -" ∷ "-" ∷ []) "ok 0 0 -" && fail ("0" ∷ "00" ∷ []) "ok 0 0 -" ≡ true
unfolding all front words_on lower same is_verdict delivers meets_words
none_fetched = refl

-- what is no answer to a fetch delivers no bytes
refused : meet ("no" ∷ "no 21" ∷ []) "no 21" && fail ("ok" ∷ "21" ∷ []) "no 21" ≡ true
unfolding all front words_on lower same is_verdict delivers meets_words
refused = refl

ended_so : meet ("ok" ∷ "ok 1" ∷ []) "ok 1 9" && fail ("9" ∷ "1 9" ∷ []) "ok 1 9" ≡ true
unfolding all front words_on lower same is_verdict delivers meets_words
ended_so = refl
