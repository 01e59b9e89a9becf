-- The list of the word is the one that was changed, or a new one.
use Rattle.std.proofs.Common.{◌<◌, ◌∙◌, ℕ, List, Contains, cond, ap, sym, subst, length, get_or, set, arith}
use Rattle.smallvec.specs.SmallVec.{SmallVec}
use Rattle.std.specs.Str.{bytes_eq}
use Rattle.std.proofs.lemmas.List.{with_items_is}
use Rattle.std.proofs.lemmas.Option.{slice_get_within}
use Rattle.std.proofs.lemmas.Result.{on_ok_weaker, on_err_weaker}
use Rattle.pk_index.specs.Index.{Rows, list_of}
use Rattle.pk_index.specs.Lists.{rows_of, with_last}
use Rattle.pk_index.specs.Terms.{words_in}
use Rattle.pk_index.proofs.TableLemmas.{changed, put_behind_rows, unchanged, words_are}
use Rattle.pk_index.proofs.lists.Lists.note.Goals as goal

pub put_at-requires : goal.put_at-requires
put_at-requires c =
    let s = c.self.inside in
    let l = slice_get_within s.terms c.in-Some.place c.args.word.now c.in-Some.ensures in
    let same = ap length c.deref_mut.ensures.value in
    omega (arith, l, same, c.self.invariant.0)

pub invariant_of-self : goal.invariant_of-self
invariant_of-self c =
    let s = c.self.inside in
    let len = c.put_at.ensures.len ∙ ap length c.deref_mut.ensures.value in
    let items = ap length (with_items_is s.numbers c.put_at.new.lists (len ∙ sym s.numbers.ok.0)) in
    (omega (arith, len, items, c.self.invariant.0), c.self.invariant.1)

pub returns-in-Some-clause-ok : goal.returns-in-Some-clause-ok
returns-in-Some-clause-ok c =
    let s = c.self.inside in
    let lists = s.numbers.items in
    let place = c.in-Some.place in
    let word = c.args.word.now in
    let n = c.args.number in
    let within : place < length lists = (let l = slice_get_within s.terms place word c.in-Some.ensures in omega (arith, l, c.self.invariant.0)) in
    let items = with_items_is s.numbers c.put_at.new.lists (c.put_at.ensures.len ∙ ap length c.deref_mut.ensures.value ∙ sym s.numbers.ok.0) in
    on_ok_weaker c.put_at.result (λ e w.
    ap (λ ls. list_of (rows_of s.terms ls) w) (items ∙ e.1 ∙ ap (λ ls. set ls place e.0) c.deref_mut.ensures.value)
    ∙ changed (with_last n) s.terms lists place e.0 word w c.self.invariant.1 c.in-Some.ensures within (e.2 ∙ ap (λ (ls : List (SmallVec ℕ)). with_last n (get_or ls place e.0).items) c.deref_mut.ensures.value)
    ∙ ap (λ (rows : Rows). cond (bytes_eq word w) (with_last n (list_of rows w)) (list_of rows w)) c.self.view_is) c.put_at.ensures.ok

pub returns-in-Some-clause-err : goal.returns-in-Some-clause-err
returns-in-Some-clause-err c =
    let s = c.self.inside in
    let lists = s.numbers.items in
    let place = c.in-Some.place in
    let word = c.args.word.now in
    let within : place < length lists = (let l = slice_get_within s.terms place word c.in-Some.ensures in omega (arith, l, c.self.invariant.0)) in
    let items = with_items_is s.numbers c.put_at.new.lists (c.put_at.ensures.len ∙ ap length c.deref_mut.ensures.value ∙ sym s.numbers.ok.0) in
    on_err_weaker c.put_at.result (λ e w.
    ap (λ ls. list_of (rows_of s.terms ls) w) (items ∙ e.1 ∙ ap (λ ls. set ls place e.0) c.deref_mut.ensures.value)
    ∙ unchanged s.terms lists place e.0 word w c.self.invariant.1 c.in-Some.ensures within (e.2 ∙ ap (λ (ls : List (SmallVec ℕ)). (get_or ls place e.0).items) c.deref_mut.ensures.value)
    ∙ ap (λ (rows : Rows). list_of rows w) c.self.view_is) c.put_at.ensures.err

pub put_word-requires : goal.put_word-requires
put_word-requires c = λ there.
    let s = c.self.inside in
    c.in-None.ensures (subst (λ ws. Contains ws c.args.word.now) (ap words_in (sym c.self.view_is) ∙ words_are s.terms s.numbers.items c.self.invariant.0) there)

pub returns-in-None-clause-ok : goal.returns-in-None-clause-ok
returns-in-None-clause-ok c =
    let s = c.self.inside in
    let word = c.args.word.now in
    let none : Contains (words_in c.args.self.now) word → ⊥ =
    λ there. c.in-None.ensures (subst (λ ws. Contains ws word) (ap words_in (sym c.self.view_is) ∙ words_are s.terms s.numbers.items c.self.invariant.0) there) in
    on_ok_weaker c.put_word.result (λ e w. ap (λ (rows : Rows). list_of rows w) e ∙ put_behind_rows c.args.self.now word c.args.number w none) c.put_word.ensures.ok

pub returns-in-None-clause-err : goal.returns-in-None-clause-err
returns-in-None-clause-err c = on_err_weaker c.put_word.result (λ e w. ap (λ (rows : Rows). list_of rows w) e) c.put_word.ensures.err
