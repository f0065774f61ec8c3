-- Lines of the log: those of the worked example of 01 (the agreed scope; docs/RULES.md has its rules);
-- an own write, a host write, a fetch of length 0, a fetch with letters among its digits that looked at 64 records, and an
-- unreadable frame. Then what some of the definitions are as bytes.
use Prim.Native.Char.{code}
use mathlib.Core.Path.{◌≡◌, refl}
use mathlib.Core.List.{[], ◌∷◌, map}
use Rattle.state.specs.Verdict.{refused, replied}
use Rattle.kinds.specs.Table.{kind_of}
use Rattle.octets.specs.Text.{ascii}
use Rattle.text.specs.Decimal.{digits, decimal}
use Rattle.text.specs.Hexadecimal.{hex_digits, hexadecimal}
use Rattle.loglines.specs.Line.{fetch_letter, delivered_fields, answer_fields, spaced, line_of, too_long}

worked :
    line_of 1 (code "B") (replied []) []
    ∷ line_of 2 (code "H") (replied (4 ∷ [])) []
    ∷ line_of 3 (code "F") (replied (4 ∷ 0 ∷ 0 ∷ [])) (0x61 ∷ 0x62 ∷ 0x63 ∷ 0x64 ∷ [])
    ∷ line_of 4 (code "H") (replied (2 ∷ [])) []
    ∷ line_of 5 (code "F") (replied (4 ∷ 4 ∷ 1 ∷ [])) (0x00 ∷ 0x00 ∷ 0x61 ∷ 0x62 ∷ 0x63 ∷ 0x64 ∷ 0x00 ∷ 0x00 ∷ [])
    ∷ line_of 6 (code "E") (replied (1 ∷ 8 ∷ [])) []
    ∷ line_of 7 (code "F") (refused 21) []
    ∷ []
    ≡ map ascii ("1 B ok\n" ∷ "2 H ok 4\n" ∷ "3 F ok 4 0 61626364\n" ∷ "4 H ok 2\n" ∷ "5 F ok 4 4 0000616263640000\n" ∷ "6 E ok 1 8\n" ∷ "7 F no 21\n" ∷ [])
unfolding line_of spaced answer_fields delivered_fields decimal digits hexadecimal hex_digits
worked = refl

others :
    line_of 10 (code "W") (replied (4 ∷ 2 ∷ [])) []
    ∷ line_of 11 (code "H") (replied (4096 ∷ [])) []
    ∷ line_of 99 (code "F") (replied (0 ∷ 0 ∷ 0 ∷ [])) []
    ∷ line_of 100 (code "F") (replied (2 ∷ 1 ∷ 64 ∷ [])) (0x09 ∷ 0xaf ∷ 0xf0 ∷ [])
    ∷ line_of 18446744073709551615 (code "?") (refused 3) []
    ∷ []
    ≡ map ascii ("10 W ok 4 2\n" ∷ "11 H ok 4096\n" ∷ "99 F ok 0 0 -\n" ∷ "100 F ok 2 1 09aff0\n" ∷ "18446744073709551615 ? no 3\n" ∷ [])
unfolding line_of spaced answer_fields delivered_fields decimal digits hexadecimal hex_digits
others = refl

too_long_lem : too_long ≡ 105 ∷ 110 ∷ 112 ∷ 117 ∷ 116 ∷ 32 ∷ 116 ∷ 111 ∷ 111 ∷ 32 ∷ 108 ∷ 111 ∷ 110 ∷ 103 ∷ 10 ∷ []
too_long_lem = refl

fetch_letter_lem : fetch_letter ≡ (kind_of 1).letter
fetch_letter_lem = refl
