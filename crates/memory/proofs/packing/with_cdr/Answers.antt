use Rattle.memory.proofs.Fields.{put_cdr}
use Rattle.memory.proofs.packing.with_cdr.Goals as goal

pub returns : goal.returns
returns c =
    rw (c.above.ensures, c.above-high.ensures, c.field.ensures.value, c.field-2.ensures.value, c.packed_word.ensures.value)
    (put_cdr c.args.bits c.args.cdr c.requires.kept)
