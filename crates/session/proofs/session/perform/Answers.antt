-- By the command: what was promised of each kind.
use Rattle.shinri_core.proofs.Kit.{ap, arith}
use Rattle.session.specs.declared.line.Command.{Command}
use Rattle.session.specs.Memory.Commands.{command_meaning}
use Rattle.session.proofs.Memory.Performing.{few_behind, ctor_room, ctor_read, fun_room, fun_read, term_room, term_read, levels_sound, by_core, by_engine, by_solver, by_equate, by_assert, by_levels, by_close, by_check, by_none}
use Rattle.session.proofs.session.perform.Goals as goal

pub overflow_add-n : goal.overflow_add-n
overflow_add-n c =
    let room = ctor_room c.args.numbers.now c.in-DeclareCtor.is c.requires.fits in
    omega (arith, room.0)

pub slice_bounds-ctor_line-end : goal.slice_bounds-ctor_line-end
slice_bounds-ctor_line-end c =
    let room = ctor_room c.args.numbers.now c.in-DeclareCtor.is c.requires.fits in
    omega (arith, room.1)

pub ctor_line-requires : goal.ctor_line-requires
ctor_line-requires c =
    let room = ctor_room c.args.numbers.now c.in-DeclareCtor.is c.requires.fits in
    (c.requires.sound.state.core, few_behind c.args.numbers.now _ room)

pub overflow_add-n-in-DeclareFun : goal.overflow_add-n-in-DeclareFun
overflow_add-n-in-DeclareFun c =
    let room = fun_room c.args.numbers.now c.in-DeclareFun.is c.requires.fits in
    omega (arith, room.0)

pub slice_bounds-fun_line-end : goal.slice_bounds-fun_line-end
slice_bounds-fun_line-end c =
    let room = fun_room c.args.numbers.now c.in-DeclareFun.is c.requires.fits in
    omega (arith, room.1)

pub fun_line-requires : goal.fun_line-requires
fun_line-requires c =
    let room = fun_room c.args.numbers.now c.in-DeclareFun.is c.requires.fits in
    (c.requires.sound.state.core, few_behind c.args.numbers.now _ room)

pub overflow_add-n-in-MkTerm : goal.overflow_add-n-in-MkTerm
overflow_add-n-in-MkTerm c =
    let room = term_room c.args.numbers.now c.in-MkTerm.is c.requires.fits in
    omega (arith, room.0)

pub slice_bounds-term_line-end : goal.slice_bounds-term_line-end
slice_bounds-term_line-end c =
    let room = term_room c.args.numbers.now c.in-MkTerm.is c.requires.fits in
    omega (arith, room.1)

pub push_line-requires : goal.push_line-requires
push_line-requires c = levels_sound c.requires.sound

pub pop_line-requires : goal.pop_line-requires
pop_line-requires c = levels_sound c.requires.sound

pub returns-in-Unreadable : goal.returns-in-Unreadable
returns-in-Unreadable c = by_none c.requires (ap (λ (j : Command). command_meaning j c.args.numbers.now) c.in-Unreadable.is)

pub returns-in-DeclareSort : goal.returns-in-DeclareSort
returns-in-DeclareSort c =
    by_core c.requires _ (ap (λ (j : Command). command_meaning j c.args.numbers.now) c.in-DeclareSort.is)
    c.sort_line.ensures

pub returns-in-DeclareCtor : goal.returns-in-DeclareCtor
returns-in-DeclareCtor c =
    by_core c.requires _ (ctor_read c.args.numbers.now c.in-DeclareCtor.is)
    c.ctor_line.ensures

pub returns-in-DeclareFun : goal.returns-in-DeclareFun
returns-in-DeclareFun c =
    by_core c.requires _ (fun_read c.args.numbers.now c.in-DeclareFun.is)
    c.fun_line.ensures

pub returns-in-Close : goal.returns-in-Close
returns-in-Close c =
    by_close c.requires (ap (λ (j : Command). command_meaning j c.args.numbers.now) c.in-Close.is)
    c.close_line.ensures

pub returns-in-MkTerm : goal.returns-in-MkTerm
returns-in-MkTerm c =
    by_core c.requires _ (term_read c.args.numbers.now c.in-MkTerm.is)
    c.term_line.ensures

pub returns-in-MkEq : goal.returns-in-MkEq
returns-in-MkEq c =
    by_core c.requires _ (ap (λ (j : Command). command_meaning j c.args.numbers.now) c.in-MkEq.is)
    c.eq_line.ensures

pub returns-in-Register : goal.returns-in-Register
returns-in-Register c =
    by_solver c.requires _ (ap (λ (j : Command). command_meaning j c.args.numbers.now) c.in-Register.is)
    c.var_line.ensures

pub returns-in-Equate : goal.returns-in-Equate
returns-in-Equate c =
    by_equate c.requires _ (ap (λ (j : Command). command_meaning j c.args.numbers.now) c.in-Equate.is)
    c.equate_line.ensures

pub returns-in-Cong : goal.returns-in-Cong
returns-in-Cong c =
    by_engine c.requires _ (ap (λ (j : Command). command_meaning j c.args.numbers.now) c.in-Cong.is)
    c.cong_line.ensures

pub returns-in-Iface : goal.returns-in-Iface
returns-in-Iface c =
    by_engine c.requires _ (ap (λ (j : Command). command_meaning j c.args.numbers.now) c.in-Iface.is)
    c.iface_line.ensures

pub returns-in-Assert : goal.returns-in-Assert
returns-in-Assert c =
    by_assert c.requires _ (ap (λ (j : Command). command_meaning j c.args.numbers.now) c.in-Assert.is)
    c.assert_line.ensures

pub returns-in-Differ : goal.returns-in-Differ
returns-in-Differ c =
    by_solver c.requires _ (ap (λ (j : Command). command_meaning j c.args.numbers.now) c.in-Differ.is)
    c.differ_line.ensures

pub returns-in-Push : goal.returns-in-Push
returns-in-Push c =
    by_levels c.requires _ (ap (λ (j : Command). command_meaning j c.args.numbers.now) c.in-Push.is)
    c.push_line.ensures

pub returns-in-Pop : goal.returns-in-Pop
returns-in-Pop c =
    by_levels c.requires _ (ap (λ (j : Command). command_meaning j c.args.numbers.now) c.in-Pop.is)
    c.pop_line.ensures

pub returns-in-Check : goal.returns-in-Check
returns-in-Check c =
    by_check c.requires (ap (λ (j : Command). command_meaning j c.args.numbers.now) c.in-Check.is)
    c.check_line.ensures
