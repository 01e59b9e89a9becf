-- Each term adds itself where it begins with the prefix, and one past the last ends the list.
use Rattle.std.proofs.Common.{arith, sym, ap, subst, ◌∙◌, ◌%◌, ◌++◌, ℕ, List, Err, eqb}
use Rattle.std.proofs.lemmas.Result.{err_from_is_err_and}
use Rattle.pk_posting.proofs.SourceLemmas.{answered_more}
use Rattle.pk_dict.specs.Entries.{TermGives, goes_on, item_kept, items_from, term_at}
use Rattle.pk_dict.specs.Place.{bytes_at}
use Rattle.pk_dict.proofs.Collection.{Read, collect_more, collect_last, collect_fails, collect_all, asks_more, asks_last}
use Rattle.pk_dict.proofs.entries.collect.Goals as goal

pub returns-in_err-entry-clause-value : goal.returns-in_err-entry-clause-value
returns-in_err-entry-clause-value g c h =
    let p = err_from_is_err_and c.from_residual.result c.from_residual.ensures.1 in
    rw (p.1, p.2) (collect_fails c.args.place.terms c.loop-i.i _ c.args.prefix.now c.loop-i.term.items c.loop-i.at (items_from c.loop-i.found.items) _ c.next_term.new.term.items c.in_err-entry.field-0.0 (omega arith) (c.loop-i.invariant.value h)
    (subst (λ (l : List ℕ). TermGives (Err c.in_err-entry.field-0.0) c.next_term.new.term.items (term_at (bytes_at l c.args.place) (eqb (c.loop-i.i % 16) 0) c.loop-i.term.items c.loop-i.at)) (c.loop-i.invariant.left.same h) (c.in_err-entry.ensures.value h)))

pub returns-then-not-branch-clause-value : goal.returns-then-not-branch-clause-value
returns-then-not-branch-clause-value g c h =
    let B : List ℕ = bytes_at (g.S.ByteSource.content c.args.source.now) c.args.place in
    let read : Read c.args.place.terms c.loop-i.i B c.args.prefix.now c.loop-i.term.items c.loop-i.at c.next_term.new.term.items c.in_ok-entry.entry c.in_ok-entry.next = record {
      inside = omega arith;
      term = ap (λ (l : List ℕ). term_at (bytes_at l c.args.place) (eqb (c.loop-i.i % 16) 0) c.loop-i.term.items c.loop-i.at) (sym (c.loop-i.invariant.left.same h)) ∙ c.in_ok-entry.ensures.value h;
    } in
    collect_last c.args.place.terms c.loop-i.i B c.args.prefix.now c.loop-i.term.items c.loop-i.at (items_from c.loop-i.found.items) _ c.next_term.new.term.items c.in_ok-entry.entry c.in_ok-entry.next _ (c.loop-i.invariant.value h) read
    (ap (goes_on c.args.prefix.now) (sym c.deref.ensures.value) ∙ sym c.in_ok-keep.ensures.more ∙ c.if-not-branch.true)
    (c.in_ok-keep.ensures.items ∙ ap (λ (l : List ℕ). items_from c.loop-i.found.items ++ item_kept c.args.prefix.now l c.in_ok-entry.entry) c.deref.ensures.value)

pub returns-then-not-branch-clause-asks : goal.returns-then-not-branch-clause-asks
returns-then-not-branch-clause-asks g c h =
    let B : List ℕ = bytes_at (g.S.ByteSource.content c.args.source.now) c.args.place in
    let read : Read c.args.place.terms c.loop-i.i B c.args.prefix.now c.loop-i.term.items c.loop-i.at c.next_term.new.term.items c.in_ok-entry.entry c.in_ok-entry.next = record {
      inside = omega arith;
      term = ap (λ (l : List ℕ). term_at (bytes_at l c.args.place) (eqb (c.loop-i.i % 16) 0) c.loop-i.term.items c.loop-i.at) (sym (c.loop-i.invariant.left.same h)) ∙ c.in_ok-entry.ensures.value h;
    } in
    omega (
      arith,
      c.in_ok-entry.ensures.asks h,
      c.loop-i.invariant.asks h,
      asks_last _ _ _ _ _ _ _ _ _ read (ap (goes_on c.args.prefix.now) (sym c.deref.ensures.value) ∙ sym c.in_ok-keep.ensures.more ∙ c.if-not-branch.true),
    )

pub loop-i-preserved : goal.loop-i-preserved
loop-i-preserved g c =
    let left = c.in_ok-entry.ensures.left in
    let B : List ℕ = bytes_at (g.S.ByteSource.content c.args.source.now) c.args.place in
    let read : g.S.ByteSource.honest → Read c.args.place.terms c.loop-i.i B c.args.prefix.now c.loop-i.term.items c.loop-i.at c.next_term.new.term.items c.in_ok-entry.entry c.in_ok-entry.next = λ h. record {
      inside = omega arith;
      term = ap (λ (l : List ℕ). term_at (bytes_at l c.args.place) (eqb (c.loop-i.i % 16) 0) c.loop-i.term.items c.loop-i.at) (sym (c.loop-i.invariant.left.same h)) ∙ c.in_ok-entry.ensures.value h;
    } in
    let more = ap (goes_on c.args.prefix.now) (sym c.deref.ensures.value) ∙ sym c.in_ok-keep.ensures.more ∙ c.if-not-branch.false in
    record {
      left = answered_more g.met.S.ByteSource.keeps_then c.loop-i.invariant.left left left.faults.ok;
      value = λ h. collect_more c.args.place.terms c.loop-i.i B c.args.prefix.now c.loop-i.term.items c.loop-i.at (items_from c.loop-i.found.items) _ c.next_term.new.term.items c.in_ok-entry.entry c.in_ok-entry.next _ (c.loop-i.invariant.value h) (read h) more
          (c.in_ok-keep.ensures.items ∙ ap (λ (l : List ℕ). items_from c.loop-i.found.items ++ item_kept c.args.prefix.now l c.in_ok-entry.entry) c.deref.ensures.value);
      asks = λ h. omega (arith, c.in_ok-entry.ensures.asks h, c.loop-i.invariant.asks h, asks_more _ _ _ _ _ _ _ _ _ (read h) more);
    }

pub returns-clause-value : goal.returns-clause-value
returns-clause-value g c h = collect_all c.args.place.terms c.loop-i.i _ c.args.prefix.now c.loop-i.term.items c.loop-i.at (items_from c.loop-i.found.items) _ (omega arith) (c.loop-i.invariant.value h)
