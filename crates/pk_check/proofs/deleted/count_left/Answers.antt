-- A list that is met as a whole is one of the segment's numbers, and no other list is.
use Rattle.std.proofs.Common.{◌∙◌, ◌-◌, ℕ, List, Option, length, sym, ap, subst}
use Rattle.std.proofs.lemmas.List.{length-map}
use Rattle.pk_disk.specs.declared.units.Extent.{Extent}
use Rattle.pk_model.specs.Collection.{Doc}
use Rattle.pk_posting.specs.declared.fault.ReadFault.TheVariants.{Damaged}
use Rattle.pk_check.specs.Deleted.{DeletionFailsAs, LeavesMany}
use Rattle.pk_check.proofs.DeletedLemmas.{none_dropped, none_named, some_dropped}
use Rattle.pk_check.proofs.NumberLemmas.{met}
use Rattle.pk_check.proofs.deleted.count_left.Goals as goal

pub returns-in_default-clause-deletes : goal.returns-in_default-clause-deletes
returns-in_default-clause-deletes g c = λ honest docs numbers rising.
    let bytes = g.D.Disk.content c.args.disk.now in
    subst (λ (list : Option Extent). LeavesMany bytes list docs (length c.args.numbers.now)) (sym c.in_default.is)
    (none_dropped bytes docs (length c.args.numbers.now) (ap length numbers ∙ length-map docs (λ (d : Doc). d.number)))

pub returns-then-listed-len-clause-deletes : goal.returns-then-listed-len-clause-deletes
returns-then-listed-len-clause-deletes g c = λ honest docs numbers rising.
    let bytes = g.D.Disk.content c.args.disk.now in
    let dead = c.in_ok-dead.dead in
    let count = c.count_listed-listed.ensures.listed ∙ ap (λ (ns : List ℕ). length (met dead ns)) numbers in
    subst (λ (list : Option Extent). DeletionFailsAs bytes list docs Damaged) (sym c.in-Some.is)
    (none_named bytes c.in-Some.extent docs rising dead c.count_listed-listed.result (c.in_ok-dead.ensures.list honest) count (λ same. c.if-listed-len.true (same ∙ sym c.len.ensures)))

pub returns-clause-deletes : goal.returns-clause-deletes
returns-clause-deletes g c = λ honest docs numbers rising.
    let bytes = g.D.Disk.content c.args.disk.now in
    let dead = c.in_ok-dead.dead in
    let listed = c.count_listed-listed.result in
    let count = c.count_listed-listed.ensures.listed ∙ ap (λ (ns : List ℕ). length (met dead ns)) numbers in
    let all = ap length numbers ∙ length-map docs (λ (d : Doc). d.number) in
    subst (λ (list : Option Extent). LeavesMany bytes list docs (length c.args.numbers.now - listed)) (sym c.in-Some.is)
    (some_dropped bytes c.in-Some.extent docs rising dead listed (length c.args.numbers.now - listed) (c.in_ok-dead.ensures.list honest) count (c.if-listed-len.false ∙ c.len.ensures) (ap (λ (n : ℕ). n - listed) all))
