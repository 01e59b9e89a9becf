-- One entry more, or the one that is damaged.
use Rattle.std.proofs.Common.{◌∙◌, ◌++◌, ◌∷◌, [], List, get_or, sym, ap, ap₂, subst, arith, rules, Err, Result}
use Rattle.std.specs.Global.{Vec}
use Rattle.std.proofs.lemmas.Result.{err_from_is_err_and}
use Rattle.std.proofs.lemmas.List.{map-append, take_all, take_more}
use Rattle.pk_manifest.specs.declared.manifest.Part.{Part as Entry}
use Rattle.pk_manifest.specs.Spelling.{view}
use Rattle.pk_open.specs.declared.opened.OpenSegment.{OpenSegment}
use Rattle.pk_segment.proofs.OnlyReadLemmas.{disk_then}
use Rattle.pk_posting.specs.declared.fault.ReadFault.{ReadFault}
use Rattle.pk_open.specs.Opened.{entries_of}
use Rattle.pk_open.specs.Opening.{SegmentsAs}
use Rattle.pk_open.proofs.EntryLemmas.{end_so_far, fault_so_far, more_grown, next_so_far, no_entry}
use Rattle.pk_open.proofs.opening.open_segments.Goals as goal

pub returns-in_err-opened-clause-opened : goal.returns-in_err-opened-clause-opened
returns-in_err-opened-clause-opened g c = λ honest.
    let D = g.D.Disk in
    let bytes = D.content c.args.disk.now in
    let table = view c.args.manifest.now in
    let l = c.loop-entry in
    let found = err_from_is_err_and c.from_residual-in_err-opened.result c.from_residual-in_err-opened.ensures.1 in
    subst (λ (r : Result (Vec OpenSegment) ReadFault). SegmentsAs bytes table r) (sym (found.1 ∙ ap Err found.2))
    (fault_so_far bytes table l.low l.segments.items l.entry-index (omega arith) (l.invariant.open_so_far honest)
    (D.content l.disk) (l.invariant.left.keeps.read honest).bytes c.deref-entry-items.result.now c.deref-entry-items.ensures.value
    c.in_err-opened.field-0.0 (c.in_err-opened.ensures.opened honest))

pub loop-entry-preserved : goal.loop-entry-preserved
loop-entry-preserved g c =
    let D = g.D.Disk in
    let bytes = D.content c.args.disk.now in
    let table = view c.args.manifest.now in
    let l = c.loop-entry in
    let s = c.in_ok-opened.opened in
    let left = disk_then l.invariant.left c.in_ok-opened.ensures.left in
    record {
      left = record { keeps = left.keeps; reads = record { later = left.reads.later; ok = left.reads.ok; damaged = λ e. absurd (cc); memory = λ e. absurd (cc); disk = λ e. absurd (cc) } };
      room = search rules;
      entries = ap entries_of c.in-Ok.ensures.items ∙ map-append (λ (o : OpenSegment). o.entry) l.segments.items (s ∷ [])
          ∙ ap₂ (λ (es : List Entry) (e : Entry). es ++ e ∷ []) l.invariant.entries (c.in_ok-opened.ensures.entry ∙ ap (λ (es : List Entry). get_or es l.entry-index no_entry) c.deref-entry-items.ensures.value)
          ∙ sym (take_more c.args.manifest.now.entries.items l.entry-index no_entry (omega arith));
      grown = rw c.in-Ok.ensures.items (more_grown l.segments.items s l.invariant.grown c.in_ok-opened.ensures.grown);
      open_so_far = λ honest. rw (c.last-low.ensures, c.in-Ok.ensures.items)
          (next_so_far bytes table l.low l.segments.items l.entry-index (omega arith) (l.invariant.open_so_far honest)
          (D.content l.disk) (l.invariant.left.keeps.read honest).bytes c.deref-entry-items.result.now c.deref-entry-items.ensures.value
          s (c.in_ok-opened.ensures.opened honest));
    }

pub returns-clause-opened : goal.returns-clause-opened
returns-clause-opened g c = λ honest.
    let l = c.loop-entry in
    end_so_far (g.D.Disk.content c.args.disk.now) (view c.args.manifest.now) l.low l.segments.items l.entry-index (omega arith) (l.invariant.open_so_far honest)

pub returns-clause-entries : goal.returns-clause-entries
returns-clause-entries g c = c.loop-entry.invariant.entries ∙ take_all c.loop-entry.entry-index c.args.manifest.now.entries.items (omega arith)

pub returns-in_default-clause-left : goal.returns-in_default-clause-left
returns-in_default-clause-left g c =
    let left = disk_then c.loop-entry.invariant.left c.in_ok-opened.ensures.left in
    record { keeps = left.keeps; reads = record { later = left.reads.later; ok = tt; damaged = λ e. absurd (cc); memory = λ e. left.reads.ok; disk = λ e. absurd (cc) } }
