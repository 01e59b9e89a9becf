-- The list at the word's place is the word's.
use Rattle.std.proofs.Common.{◌<◌, ◌∙◌, ℕ, Contains, ap, sym, subst, length, arith}
use Rattle.smallvec.specs.SmallVec.{SmallVec}
use Rattle.std.proofs.lemmas.List.{get_or_read}
use Rattle.std.proofs.lemmas.Option.{slice_get_within}
use Rattle.pk_index.specs.Index.{Rows, list_of}
use Rattle.pk_index.specs.Terms.{words_in}
use Rattle.pk_index.proofs.TableLemmas.{absent, found, words_are}
use Rattle.pk_index.proofs.lists.Lists.get.Goals as goal

pub returns-in-Some : goal.returns-in-Some
returns-in-Some c =
    let s = c.self.inside in
    let lists = s.numbers.items in
    let place = c.in-Some.place in
    let word = c.args.word.now in
    let within : place < length lists = (let l = slice_get_within s.terms place word c.in-Some.ensures in omega (arith, l, c.self.invariant.0)) in
    c.as_slice.ensures ∙ ap (λ (l : SmallVec ℕ). l.items) (get_or_read lists place _ within c.index.ensures c.index.result.now)
    ∙ sym (found s.terms lists place word c.index.result.now c.self.invariant.1 c.in-Some.ensures within)
    ∙ ap (λ (rows : Rows). list_of rows word) c.self.view_is

pub returns-in-None : goal.returns-in-None
returns-in-None c =
    let s = c.self.inside in
    sym (absent c.args.self.now c.args.word.now
    (λ there. c.in-None.ensures (subst (λ ws. Contains ws c.args.word.now) (ap words_in (sym c.self.view_is) ∙ words_are s.terms s.numbers.items c.self.invariant.0) there)))
