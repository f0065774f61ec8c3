-- The worked example of 01 (the agreed scope; docs/RULES.md has its rules), from the definitions: its journal gives its log. And two journals
-- that are alike but for what the host wrote, or are not.
use Prim.Native.Nat.{ℕ}
use native.Mathlib.Omega.{arith}
use mathlib.Core.Path.{◌≡◌, refl, ap}
use mathlib.Core.Logic.{◌≢◌}
use mathlib.Core.List.{List, [], ◌∷◌, map}
use lib.ListN.{get_or, replicate}
use Rattle.journal.specs.Run.{entries_in, entries, fresh_device, log_from}
use Rattle.journal.specs.Readings.{Reading, readings_in, readings, but_host_bytes}
use Rattle.device.specs.Frame.{step_of, frame_says, frame_leaves, frame_delivers}
use Rattle.octets.specs.Lists.{all}
use Rattle.state.specs.Records.{held, span, addresses, total, place, count_fresh, count_held, keep, lowest, highest, joined}
use Rattle.state.specs.State.{ascending, command_holds, holds}
use Rattle.state.specs.Verdict.{refused, accepted, verdict}
use Rattle.cache.specs.Begin.{begin_says, begin_state, begin_store}
use Rattle.cache.specs.Fetch.{fetch_says, fetch_state, fetch_store, fetch_dest}
use Rattle.cache.specs.End.{end_says, end_state, end_store}
use Rattle.cache.specs.HostWrite.{host_says, host_window}
use Rattle.frames.specs.Layout.{fields_of}
use Rattle.frames.specs.Checks.{not_zero, zero_broken}
use Rattle.frames.specs.Kinds.{data_size}
use Rattle.frames.specs.Read.{fields_say, read_says}
use Rattle.octets.specs.Text.{ascii}
use Rattle.text.specs.Decimal.{digits, decimal}
use Rattle.text.specs.Hexadecimal.{hex_digits, hexadecimal}
use Rattle.loglines.specs.Line.{delivered_fields, answer_fields, spaced, line_of}

worked :
    log_from 1 (entries (fresh_device (replicate 32768 0) (replicate 16384 0) (replicate 4096 0))
    (0x08 ∷ 0x00 ∷ 0x00 ∷ 0x00 ∷ 0x00
    ∷ 0x60 ∷ 0x00 ∷ 0x40 ∷ 0x00 ∷ 0x80 ∷ 0x61 ∷ 0x62 ∷ 0x63 ∷ 0x64
    ∷ 0x28 ∷ 0x00 ∷ 0x40 ∷ 0x00 ∷ 0x80
    ∷ 0x60 ∷ 0x00 ∷ 0x48 ∷ 0x00 ∷ 0x40 ∷ 0x7a ∷ 0x7a
    ∷ 0x28 ∷ 0x00 ∷ 0x38 ∷ 0x01 ∷ 0x00
    ∷ 0x48 ∷ 0x00 ∷ 0x00 ∷ 0x00 ∷ 0x00
    ∷ 0x28 ∷ 0x00 ∷ 0x40 ∷ 0x00 ∷ 0x80 ∷ []))
    ≡ ascii "1 B ok\n2 H ok 4\n3 F ok 4 0 61626364\n4 H ok 2\n5 F ok 4 4 0000616263640000\n6 E ok 1 8\n7 F no 21\n"
unfolding log_from entries_in step_of frame_says frame_leaves frame_delivers line_of delivered_fields answer_fields spaced digits decimal hex_digits hexadecimal
    read_says fields_say fields_of data_size not_zero zero_broken verdict accepted begin_says begin_state begin_store fetch_says fetch_state fetch_store fetch_dest
    end_says end_state end_store host_says host_window all ascending command_holds holds total held span addresses place count_fresh count_held keep lowest highest
    joined
worked = refl

-- the host writes a byte, or a command does, and it is fetched
host_writes_lem : ℕ → List ℕ
host_writes_lem byte = 0x60 ∷ 0x00 ∷ 0x40 ∷ 0x00 ∷ 0x20 ∷ byte ∷ 0x28 ∷ 0x00 ∷ 0x40 ∷ 0x00 ∷ 0x20 ∷ []

command_writes : ℕ → List ℕ
command_writes byte = 0x88 ∷ 0x00 ∷ 0x40 ∷ 0x00 ∷ 0x20 ∷ byte ∷ 0x28 ∷ 0x00 ∷ 0x40 ∷ 0x00 ∷ 0x20 ∷ []

host_bytes_free : map but_host_bytes (readings (host_writes_lem 4)) ≡ map but_host_bytes (readings (host_writes_lem 40))
unfolding host_writes_lem readings_in step_of read_says fields_say fields_of data_size not_zero zero_broken verdict accepted
host_bytes_free = refl

own_bytes_not : map but_host_bytes (readings (command_writes 4)) ≢ map but_host_bytes (readings (command_writes 40))
unfolding command_writes readings_in step_of read_says fields_say fields_of data_size not_zero zero_broken verdict accepted
own_bytes_not e =
    let bytes : ◌≡◌ {A = ℕ} 4 40 = ap (λ (rs : List Reading). get_or (get_or rs 0 (record { says = refused 0; bytes = [] })).bytes 0 0) e in
    omega arith
