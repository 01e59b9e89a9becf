-- The list at the place is that of the word there.
use Rattle.std.proofs.Common.{◌<◌, ◌∙◌, ℕ, List, Some, ap, sym, slice_get, length, arith}
use Rattle.smallvec.specs.SmallVec.{SmallVec}
use Rattle.std.proofs.lemmas.List.{get_or_read}
use Rattle.pk_index.specs.Index.{Rows, list_of}
use Rattle.pk_index.specs.Lists.{rows_of}
use Rattle.pk_index.proofs.TableLemmas.{found, row_at, rows_len}
use Rattle.pk_index.proofs.lists.Lists.row.Goals as goal

pub word-requires : goal.word-requires
word-requires c =
    let s = c.self.inside in
    let len = sym (ap length c.self.view_is) ∙ rows_len s.terms s.numbers.items c.self.invariant.0 in
    omega (arith, c.requires, len)

pub index-requires : goal.index-requires
index-requires c =
    let s = c.self.inside in
    let len = sym (ap length c.self.view_is) ∙ rows_len s.terms s.numbers.items c.self.invariant.0 in
    omega (arith, c.requires, len, c.self.invariant.0, s.numbers.ok.0)

pub returns-clause-row : goal.returns-clause-row
returns-clause-row c =
    let s = c.self.inside in
    let lists = s.numbers.items in
    let place = c.args.place in
    let len = sym (ap length c.self.view_is) ∙ rows_len s.terms lists c.self.invariant.0 in
    let within : place < length lists = omega (arith, c.requires, len, c.self.invariant.0) in
    let list = c.as_slice.ensures ∙ ap (λ (l : SmallVec ℕ). l.items) (get_or_read lists place _ within c.index.ensures c.index.result.now) in
    ap (λ (rows : Rows). slice_get rows place) (sym c.self.view_is) ∙ row_at s.terms lists place c.word.result.now c.index.result.now c.word.ensures within
    ∙ ap (λ (ns : List ℕ). Some (c.word.result.now, ns)) (sym list) ∙ ap Some (sym c.new.ensures.same)

pub returns-clause-own : goal.returns-clause-own
returns-clause-own c =
    let s = c.self.inside in
    let lists = s.numbers.items in
    let place = c.args.place in
    let len = sym (ap length c.self.view_is) ∙ rows_len s.terms lists c.self.invariant.0 in
    let within : place < length lists = omega (arith, c.requires, len, c.self.invariant.0) in
    let list = c.as_slice.ensures ∙ ap (λ (l : SmallVec ℕ). l.items) (get_or_read lists place _ within c.index.ensures c.index.result.now) in
    ap (λ (rows : Rows). list_of rows c.new.result.word.now) (sym c.self.view_is)
    ∙ ap (λ (r : List ℕ × List ℕ). list_of (rows_of s.terms lists) r.0) c.new.ensures.same
    ∙ found s.terms lists place c.word.result.now c.index.result.now c.self.invariant.1 c.word.ensures within ∙ sym list
    ∙ ap (λ (r : List ℕ × List ℕ). r.1) (sym c.new.ensures.same)
