use native.Mathlib.Omega.{arith}
use mathlib.Core.Path.{◌≡◌, sym, ◌∙◌}
use lib.ListN.{length}
use Rattle.octets.proofs.Overwrite.{overwrite_paste, paste_more}
use Rattle.scan.specs.Values.{bytes_of}
use Rattle.scan.proofs.Bytes.{bytes_length, bytes_at}
use Rattle.scan.proofs.values.decode.Goals as goal

pub loop-i-preserved : goal.loop-i-preserved
loop-i-preserved c =
    let word = c.args.word.now in
    let buffer = c.args.buffer.now in
    let i = c.loop-i.i in
    let byte = c.pair_value.ensures ∙ sym (bytes_at word i (omega arith)) in
    rw (c.loop-i.invariant, byte) (paste_more buffer (bytes_of word) i 0 (omega arith) (omega (arith, bytes_length word)))

pub returns : goal.returns
returns c =
    let word = c.args.word.now in
    let buffer = c.args.buffer.now in
    let all : c.loop-i.i ≡ c.min-n.result = omega arith in
    rw (c.loop-i.invariant, all, c.min-n.ensures, ← bytes_length word) (overwrite_paste buffer (bytes_of word) 0 (length buffer))
