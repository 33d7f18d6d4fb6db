-- By the place of a symbol after its constructor.
use Rattle.shinri_core.proofs.Kit.{suc, ◌-◌, sym, arith}
use Rattle.shinri_core.specs.Memory.Table.{member_role}
use Rattle.shinri_core.specs.Memory.Codes.{role_meaning, RoleBelow}
use Rattle.shinri_core.proofs.Memory.Codes.{role_of_zero, role_of_member}
use Rattle.shinri_core.proofs.term.role_from.Goals as goal

pub returns-then-owner-eq0 : goal.returns-then-owner-eq0
unfolding role_meaning RoleBelow
returns-then-owner-eq0 c = (role_of_zero _ _ c.if-owner-eq0.true, tt)

pub returns-then-symbol-ctor : goal.returns-then-symbol-ctor
unfolding role_meaning RoleBelow member_role
returns-then-symbol-ctor c = (sym (role_of_member _ _ (c.args.owner - 1) 0 (omega arith) (omega arith)), tt)

pub returns-then-symbol-ctor-eq1 : goal.returns-then-symbol-ctor-eq1
unfolding role_meaning RoleBelow member_role
returns-then-symbol-ctor-eq1 c = (sym (role_of_member _ _ (c.args.owner - 1) 1 (omega arith) (omega arith)), omega arith)

pub returns : goal.returns
unfolding role_meaning RoleBelow member_role
returns c = (sym (role_of_member _ _ (c.args.owner - 1) (suc (suc _)) (omega arith) (omega arith)), omega arith)
