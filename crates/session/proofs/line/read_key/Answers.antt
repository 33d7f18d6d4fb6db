-- Each key is tried before those that stand behind it.
use Rattle.shinri_core.proofs.Kit.{refl}
use Rattle.session.specs.Text.{bytes}
use Rattle.session.specs.Line.{CheckKey, PopKey, PushKey, DifferKey, AssertKey, IfaceKey, CongKey, EquateKey, VarKey, EqKey, TermKey, CloseKey, FunKey, CtorKey, SortKey, key_text, keys}
use Rattle.session.proofs.Memory.Keys.{none_tried, one_tried}
use Rattle.session.proofs.line.read_key.Goals as goal

pub returns : goal.returns
unfolding bytes key_text keys
returns c =
    let check = one_tried CheckKey _ c.key_or-check.ensures refl (none_tried _) in
    let pop = one_tried PopKey _ c.key_or-pop.ensures refl check in
    let push = one_tried PushKey _ c.key_or-push.ensures refl pop in
    let differ = one_tried DifferKey _ c.key_or-differ.ensures refl push in
    let assert = one_tried AssertKey _ c.key_or-assert.ensures refl differ in
    let iface = one_tried IfaceKey _ c.key_or-iface.ensures refl assert in
    let cong = one_tried CongKey _ c.key_or-cong.ensures refl iface in
    let equate = one_tried EquateKey _ c.key_or-equate.ensures refl cong in
    let var = one_tried VarKey _ c.key_or-var.ensures refl equate in
    let eq = one_tried EqKey _ c.key_or-eq.ensures refl var in
    let term = one_tried TermKey _ c.key_or-term.ensures refl eq in
    let close = one_tried CloseKey _ c.key_or-close.ensures refl term in
    let fun = one_tried FunKey _ c.key_or-fun.ensures refl close in
    let ctor = one_tried CtorKey _ c.key_or-ctor.ensures refl fun in
    (one_tried SortKey _ c.key_or.ensures refl ctor).is
