-- What looks like text.
use Rattle.std.specs.Prelude.{ℕ, List, Bool, not, ◌&&◌, ◌||◌, cond, leb, eqb, get_or}
use Prim.Native.Char.{code}
use Rattle.octets.specs.Lists.{all}

-- a tab, the two bytes that end a line, the printable characters of ASCII, and the bytes of characters beyond ASCII
abbrev pub is_text : ℕ → Bool
is_text byte = eqb byte 9 || (eqb byte 10 || (eqb byte 13 || (leb (code " ") byte && not (eqb byte 0x7f))))

-- the first bytes of a text that says in which order its bytes stand: in UTF-16, one way or the other, or in UTF-8
abbrev pub is_mark : ℕ → ℕ → ℕ → Bool
is_mark a b c = cond (eqb a 0xff) (eqb b 0xfe) (cond (eqb a 0xfe) (eqb b 0xff) (eqb a 0xef && (eqb b 0xbb && eqb c 0xbf)))

-- it starts so, or is text alone
abbrev pub looks_like_text : List ℕ → Bool
looks_like_text bytes = is_mark (get_or bytes 0 0) (get_or bytes 1 0) (get_or bytes 2 0) || all is_text bytes
