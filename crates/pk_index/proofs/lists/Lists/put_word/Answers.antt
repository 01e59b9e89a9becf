-- The word is put behind the others with its list; where either is refused, what stands behind the lists is not seen.
use Rattle.std.proofs.Common.{◌≡◌, ◌+◌, ◌≤◌, ◌++◌, ◌∷◌, ◌∙◌, [], ℕ, List, Contains, Result, Ok, Err, OnErr, OnOk, ap, ap₂, sym, subst, length, take, length-append, arith}
use Rattle.smallvec.specs.SmallVec.{SmallVec}
use Rattle.std.specs.List.{IsDistinct}
use Rattle.std.specs.Str.{bytes_eq}
use Rattle.std.proofs.lemmas.List.{length-take-le}
use Rattle.std.proofs.lemmas.Result.{on_ok_weaker, on_err_weaker}
use Rattle.pk_index.specs.Lists.{rows_of}
use Rattle.pk_index.specs.Terms.{words_in}
use Rattle.pk_index.proofs.NoteLemmas.{on_err}
use Rattle.pk_index.proofs.TableLemmas.{cut_off, distinct_more, pushed, unseen, words_are}
use Rattle.pk_index.proofs.lists.Lists.put_word.Goals as goal

pub put-requires : goal.put-requires
put-requires c = λ there.
    let s = c.self.inside in
    c.requires (subst (λ ws. Contains ws c.args.word.now) (sym (words_are s.terms s.numbers.items c.self.invariant.0) ∙ ap words_in c.self.view_is) there)

pub invariant_of-self : goal.invariant_of-self
invariant_of-self c =
    let s = c.self.inside in
    let kept : c.truncate.new.self.items ≡ take (length s.terms) s.numbers.items = c.truncate.ensures.items ∙ ap (λ n. take n s.numbers.items) c.len.ensures.len in
    let len : length c.push.new.self.items ≡ length s.terms = ap length (c.in_err-push.ensures.items ∙ kept) ∙ length-take-le (length s.terms) s.numbers.items c.self.invariant.0 in
    (omega (arith, len), c.self.invariant.1)

pub returns-in_err-push-clause-err : goal.returns-in_err-push-clause-err
returns-in_err-push-clause-err c =
    let s = c.self.inside in
    let kept : c.truncate.new.self.items ≡ take (length s.terms) s.numbers.items = c.truncate.ensures.items ∙ ap (λ n. take n s.numbers.items) c.len.ensures.len in
    on_err c.from_residual.result _ (ap (rows_of s.terms) (c.in_err-push.ensures.items ∙ kept) ∙ cut_off s.terms s.numbers.items c.self.invariant.0 ∙ c.self.view_is)

-- whatever became of the word, the lists are enough, and the words distinct
stays : {T E : Type 0} (r : Result T E) (words new : List (List ℕ)) (word : List ℕ) (lists : List (SmallVec ℕ)) → length lists ≡ length words + 1 → IsDistinct bytes_eq words → (Contains words word → ⊥)
    → OnOk r (new ≡ words ++ word ∷ []) → OnErr r (new ≡ words) → (length new ≤ length lists) × IsDistinct bytes_eq new
stays (Ok x) words new word lists len apart none ok err =
    let more : length new ≡ length words + 1 = ap length ok ∙ length-append words (word ∷ []) in
    (omega (arith, more, len), subst (IsDistinct bytes_eq) (sym ok) (distinct_more words word apart none))
stays (Err e) words new word lists len apart none ok err =
    let same : length new ≡ length words = ap length err in
    (omega (arith, same, len), subst (IsDistinct bytes_eq) (sym err) apart)

pub invariant_of-self-2 : goal.invariant_of-self-2
invariant_of-self-2 c =
    let s = c.self.inside in
    let le = c.self.invariant.0 in
    let n = length s.terms in
    let list = c.push_reserved.new.self in
    let kept : c.truncate.new.self.items ≡ take n s.numbers.items = c.truncate.ensures.items ∙ ap (λ m. take m s.numbers.items) c.len.ensures.len in
    let len : length c.push.new.self.items ≡ n + 1 =
    ap length (c.in_ok-push.ensures.items ∙ ap (λ ls. ls ++ list ∷ []) kept) ∙ length-append (take n s.numbers.items) (list ∷ []) ∙ ap (λ m. m + 1) (length-take-le n s.numbers.items le) in
    let none : Contains s.terms c.args.word.now → ⊥ =
    λ there. c.requires (subst (λ ws. Contains ws c.args.word.now) (sym (words_are s.terms s.numbers.items le) ∙ ap words_in c.self.view_is) there) in
    stays c.put.result s.terms c.put.new.self c.args.word.now c.push.new.self.items len c.self.invariant.1 none c.put.ensures.ok c.put.ensures.err

pub returns-clause-ok : goal.returns-clause-ok
returns-clause-ok c =
    let s = c.self.inside in
    let list = c.push_reserved.new.self in
    let word = c.args.word.now in
    let kept = c.truncate.ensures.items ∙ ap (λ m. take m s.numbers.items) c.len.ensures.len in
    let one : list.items ≡ c.args.number ∷ [] = c.push_reserved.ensures.items ∙ ap (λ xs. xs ++ c.args.number ∷ []) c.new-list.ensures.items in
    on_ok_weaker c.put.result (λ e.
    ap₂ rows_of e (c.in_ok-push.ensures.items ∙ ap (λ ls. ls ++ list ∷ []) kept) ∙ pushed s.terms s.numbers.items word list c.self.invariant.0
    ∙ ap₂ (λ rows ns. rows ++ (word, ns) ∷ []) c.self.view_is one) c.put.ensures.ok

pub returns-clause-err : goal.returns-clause-err
returns-clause-err c =
    let s = c.self.inside in
    let list = c.push_reserved.new.self in
    let kept = c.truncate.ensures.items ∙ ap (λ m. take m s.numbers.items) c.len.ensures.len in
    on_err_weaker c.put.result (λ e.
    ap₂ rows_of e (c.in_ok-push.ensures.items ∙ ap (λ ls. ls ++ list ∷ []) kept)
    ∙ unseen s.terms s.numbers.items (list ∷ []) c.self.invariant.0 ∙ c.self.view_is) c.put.ensures.err
