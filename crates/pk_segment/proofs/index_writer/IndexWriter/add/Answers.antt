-- One word more, by its list.
use Rattle.std.proofs.Common.{◌∙◌, ◌≤◌, ◌++◌, ◌∷◌, [], ℕ, List, length, refl, sym, ap, subst, arith}
use Rattle.std.proofs.lemmas.List.{get_or_append_left, length-append}
use Rattle.std.specs.Prelude.{All}
use Rattle.std.proofs.lemmas.List.Elements.{All-push}
use Rattle.pk_dict.specs.Dictionary.{Item}
use Rattle.pk_dict.specs.Writer.{HasAdded, MayFollow}
use Rattle.pk_dict.proofs.Room.{as_long}
use Rattle.pk_posting.specs.Spelling.{spelling as list_spelling}
use Rattle.pk_segment.specs.Indexed.{items_at, list_with, lists_of}
use Rattle.pk_segment.proofs.IndexLemmas.{items_count}
use Rattle.pk_segment.proofs.PlanLemmas.{all_last, item_is, items_next, lists_kept, lists_next, lists_too_long, words_too_long}
use Rattle.pk_segment.proofs.index_writer.IndexWriter.add.Goals as goal

all_before : {X : Type 0} (P : X → Type 0) (xs : List X) (x : X) → All P (xs ++ x ∷ []) → All P xs
all_before P xs x all = λ k d within. subst P (get_or_append_left xs (x ∷ []) d k within)
    (all k d (omega (arith, within, length-append xs (x ∷ []))))

pub returns-then-bytes-self-clause-words : goal.returns-then-bytes-self-clause-words
returns-then-bytes-self-clause-words c = λ docs before after terms list has.
    lists_too_long docs before c.args.word.now after terms
    (omega (
      arith,
      c.if-bytes-self.true,
      c.length_of-bytes.ensures,
      ap (λ (l : List ℕ). length (list_spelling l)) list,
      has.postings_are,
      c.args.self.now.short,
    ))

pub returns-then-not-may_add-clause-words : goal.returns-then-not-may_add-clause-words
returns-then-not-may_add-clause-words c = λ docs before after terms list has.
    let w = c.args.word.now in
    let bytes = c.length_of-bytes.ensures ∙ ap (λ (l : List ℕ). length (list_spelling l)) list in
    let at = c.args.self.now.postings in
    let same = item_is w w (length c.args.list.now) (length (list_with w docs)) at c.length_of-bytes.result
    (length (list_spelling (list_with w docs))) refl (ap length list) bytes in
    words_too_long docs before w after at terms has.postings_are
    (λ may. let yes = (c.may_add.ensures.exactly (items_at 0 before docs) has.added).1
    (subst (MayFollow (items_at 0 before docs)) (sym same) may) in cc (yes, c.if-not-may_add.true))

pub add-requires : goal.add-requires
add-requires c = c.if-not-may_add.ensures.may refl c.requires.entries.0 c.requires.entries.1

pub returns-clause-words : goal.returns-clause-words
returns-clause-words c = λ docs before after terms list has.
    let w = c.args.word.now in
    let bytes = c.length_of-bytes.ensures ∙ ap (λ (l : List ℕ). length (list_spelling l)) list in
    let at = c.args.self.now.postings in
    let same = item_is w w (length c.args.list.now) (length (list_with w docs)) at c.length_of-bytes.result
    (length (list_spelling (list_with w docs))) refl (ap length list) bytes in
    let next = items_next before w docs at has.postings_are in
    let all = lists_next before w docs in
    let added = subst (λ (es : List Item). HasAdded c.add.new.self es)
    (ap (λ (it : Item). items_at 0 before docs ++ it ∷ []) same ∙ sym next)
    (c.in_ok-add.ensures.ok (items_at 0 before docs) has.added) in
    record {
      added = added;
      longest_is =
          All-push (λ (v : List ℕ). length (list_spelling (list_with v docs)) ≤ c.max-self.result) before
          w
          (λ k v within. omega (arith, has.longest_is k v within, c.max-self.ensures))
          (omega (arith, bytes, c.max-self.ensures));
      no_longer = λ n most. omega (
        arith,
        c.max-self.ensures,
        bytes,
        has.no_longer n (all_before (λ (v : List ℕ). length (list_spelling (list_with v docs)) ≤ n)
            before w most),
        all_last (λ (v : List ℕ). length (list_spelling (list_with v docs)) ≤ n) before w most,
      );
      postings_are =
          omega (
            arith,
            bytes,
            ap length all,
            length-append (lists_of before docs)
                (list_spelling (list_with w docs)),
            has.postings_are,
          );
      terms_are =
          omega (
            arith,
            has.terms_are,
            length-append before (w ∷ []),
            c.saturating_add-self.ensures,
            added.size,
            items_count docs 0 (before ++ w ∷ []),
            as_long (items_at 0 (before ++ w ∷ []) docs),
          );
      lists_are = lists_kept c.with_list.result _ _
          (ap (λ (l : List ℕ). lists_of before docs ++ list_spelling l) list ∙ sym all)
          (c.with_list.ensures.lists (lists_of before docs) (λ v found. has.lists_are v (sym c.take.ensures.value ∙ found)));
    }

pub returns-clause-entries : goal.returns-clause-entries
returns-clause-entries c = (_, c.in_ok-add.ensures.ok c.requires.entries.0 c.requires.entries.1)
