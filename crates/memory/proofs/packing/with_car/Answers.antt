use Rattle.memory.proofs.Fields.{put_car}
use Rattle.memory.proofs.packing.with_car.Goals as goal

pub returns : goal.returns
returns c = rw (c.above.ensures, c.field.ensures.value, c.packed_word.ensures.value) (put_car c.args.bits c.args.car c.requires.kept)
