-- The search for the first group, its offset, and then the collection.
use Rattle.std.proofs.Common.{arith, sym, ap, ◌∙◌, ◌≡◌, ◌-◌, ◌*◌, [], List, ℕ, Ok, Err, Result, OnOk}
use Rattle.pk_dict.specs.Dictionary.{group_count}
use Rattle.pk_dict.specs.Entries.{asks_at, group_of, start_at}
use Rattle.pk_dict.specs.Place.{bytes_at}
use Rattle.pk_dict.proofs.Asks.{asks_total}
use Rattle.pk_dict.proofs.entries.entries_any.Goals as goal

on_ok_then : {T E : Type 0} (r : Result T E) (P Q : Type 0) → OnOk r P → (P → Q) → OnOk r Q
on_ok_then (Ok x) P Q p f = f p
on_ok_then (Err e) P Q p f = tt

pub returns-clause-asks : goal.returns-clause-asks
returns-clause-asks g c h es d len =
    let terms : ℕ = c.args.place.terms in
    let prefix : List ℕ = c.args.prefix.now in
    let group : ℕ = c.first_group-group.result in
    let first : List ℕ = bytes_at (g.S.ByteSource.content c.args.source.now) c.args.place in
    let second : List ℕ = bytes_at (g.S.ByteSource.content c.narrow.new.source) c.args.place in
    let at : ℕ = c.in_ok-at.at in
    let s = c.in_ok-standing.standing in
    let same = ap (λ (l : List ℕ). bytes_at l c.args.place) (c.in_ok-standing.ensures.left.same h) in
    let then = ap (λ (l : List ℕ). bytes_at l c.args.place) (c.in_ok-at.ensures.left.same h) in
    let starts : start_at first (4 * group_count terms) (group_of s) ≡ Ok at =
    ap (λ (l : List ℕ). start_at l (4 * group_count terms) (group_of s)) (sym same) ∙ ap (start_at second (4 * group_count terms)) (sym c.first_group-group.ensures) ∙ c.in_ok-at.ensures.value h in
    let there = ap (λ (l : List ℕ). asks_at (terms - 16 * group) l prefix (16 * group) [] at) (then ∙ same) ∙ ap (λ (k : ℕ). asks_at (terms - 16 * k) first prefix (16 * k) [] at) c.first_group-group.ensures in
    on_ok_then c.collect.result _ _ (c.collect.ensures.asks h) (λ asks k m few short.
    omega (
      arith,
      asks,
      there,
      asks_total first es terms prefix s at m d len (omega arith) (c.in_ok-standing.ensures.value h) starts short,
      c.in_ok-at.ensures.left.asks,
      c.in_ok-standing.ensures.asks k few,
    ))
