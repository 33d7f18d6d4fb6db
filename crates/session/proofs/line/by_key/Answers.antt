-- Each key asks for its count of numbers.
use Rattle.shinri_core.proofs.Kit.{refl, arith}
use Rattle.session.specs.Line.{just_four, by_key}
use Rattle.session.proofs.Memory.Keys.{other_one, other_two, other_four, take_some, take_one, take_two, take_four}
use Rattle.session.proofs.line.by_key.Goals as goal

pub returns-then-n-ne1 : goal.returns-then-n-ne1
returns-then-n-ne1 c = rw c.in-One.is (record { is = other_one _ _ c.requires.within _ (omega arith); fits = tt })

pub returns-then-n-ne2 : goal.returns-then-n-ne2
returns-then-n-ne2 c = rw c.in-Pair.is (record { is = other_two _ _ c.requires.within _ (omega arith); fits = tt })

pub returns-then-n-ne4 : goal.returns-then-n-ne4
returns-then-n-ne4 c = rw c.in-Iface.is (record { is = other_four _ _ c.requires.within (omega arith); fits = tt })

pub returns-in-Sort : goal.returns-in-Sort
unfolding by_key
returns-in-Sort c = rw c.in-Sort.is (record { is = refl; fits = tt })

pub returns-in-List : goal.returns-in-List
returns-in-List c =
    rw (c.in-List.is, take_some _ _ c.requires.within c.requires.any)
    (c.by_list.ensures _ (omega (arith, c.requires.any, c.requires.most), omega (arith, c.requires.any, c.requires.within)))

pub returns-else-n-ne1 : goal.returns-else-n-ne1
returns-else-n-ne1 c = rw (c.in-One.is, take_one _ _ c.requires.within (omega arith)) (c.by_one.ensures _)

pub returns-else-n-ne2 : goal.returns-else-n-ne2
returns-else-n-ne2 c = rw (c.in-Pair.is, take_two _ _ c.requires.within (omega arith)) (c.by_pair.ensures _)

pub returns-else-n-ne4 : goal.returns-else-n-ne4
unfolding by_key just_four
returns-else-n-ne4 c = rw (c.in-Iface.is, take_four _ _ c.requires.within (omega arith)) (c.iface.ensures _)
