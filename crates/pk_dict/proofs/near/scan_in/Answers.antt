-- A step less goes on with what is left; found and past end the scan.
use Rattle.std.proofs.Common.{arith, ◌∙◌, sym, ap, subst, length, Ok}
use Rattle.pk_dict.specs.declared.head.Step.TheVariants.{Less, Found, Past}
use Rattle.pk_dict.specs.Reading.{IsFrom, IsWithin}
use Rattle.pk_dict.proofs.Scan.{scan_step}
use Rattle.pk_dict.proofs.near.scan_in.Goals as goal

pub returns-in-Found-clause-value : goal.returns-in-Found-clause-value
returns-in-Found-clause-value c bytes p =
    scan_step c.args.left.count c.loop-done.done bytes _ _ _ (Ok (Found c.in-Found.entry)) _ (omega arith) (c.loop-done.invariant.value bytes p) (c.in-Some.ensures.value bytes p ∙ ap Ok c.in-Found.is)

pub returns-in-Past-clause-value : goal.returns-in-Past-clause-value
returns-in-Past-clause-value c bytes p =
    scan_step c.args.left.count c.loop-done.done bytes _ _ _ (Ok Past) _ (omega arith) (c.loop-done.invariant.value bytes p) (c.in-Some.ensures.value bytes p ∙ ap Ok c.in-Past.is)

pub loop-done-preserved : goal.loop-done-preserved
loop-done-preserved c = record {
  within = subst (IsWithin (length c.args.term.now)) c.in-Less.is c.in-Some.ensures.matched;
  after = subst (IsFrom c.args.left.at) c.in-Less.is c.in-Some.ensures.next;
  value = λ bytes p. sym (scan_step c.args.left.count c.loop-done.done bytes _ _ _ (Ok (Less c.in-Less.now c.in-Less.next)) _ (omega arith) (c.loop-done.invariant.value bytes p) (c.in-Some.ensures.value bytes p ∙ ap Ok c.in-Less.is));
}
