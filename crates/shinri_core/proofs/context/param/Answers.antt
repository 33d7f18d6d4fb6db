-- Word i / 4 of a symbol holds its parameter i as digit i % 4.
use Rattle.shinri_core.proofs.Kit.{arith}
use Rattle.shinri_core.proofs.Memory.Views.{param_word, param_found}
use Rattle.shinri_core.proofs.context.param.Goals as goal

pub get_at-word-requires : goal.get_at-word-requires
get_at-word-requires c = param_word _ _ _ c.requires

pub overflow_cast-result : goal.overflow_cast-result
overflow_cast-result c =
    let p = param_found _ _ _ c.requires c.get_at-word.ensures.0 c.digit.ensures in
    let z = c.requires.sound in
    let n = z.sorts_fit in
    let e = z.sort_count in omega arith

pub returns : goal.returns
returns c = param_found _ _ _ c.requires c.get_at-word.ensures.0 c.digit.ensures
