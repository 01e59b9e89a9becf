-- The lists of all words that begin alike give the live numbers of the documents that hold one.
use Rattle.std.proofs.Common.{◌≡◌, ◌∙◌, ◌&&◌, ℕ, suc, Bool, true, false, true≢false, cond, List, [], ◌∷◌, Contains, refl, sym, ap, subst, arith}
use Rattle.std.specs.List.{list_any}
use Rattle.std.specs.List.Sorted.{IsStrictlyIncreasing}
use Rattle.std.specs.Str.{bytes_eq}
use Rattle.std.proofs.lemmas.List.Folds.{Any-from_list_any, list_any-from_Any}
use Rattle.std.proofs.lemmas.Slice.Eq.{bytes_eq-Decides}
use Rattle.pk_model.specs.Collection.{Doc, answer, numbers_of}
use Rattle.pk_model.specs.Tree.{Prefix, Term, begins_with}
use Rattle.pk_plan.proofs.PrefixLemmas.{HasPrefix, prefix_found}
use Rattle.pk_sets.proofs.CallerLemmas.{has_intersection}
use Rattle.pk_sets.specs.Sets.{has, intersection}
use Rattle.pk_index.specs.Index.{Keeps, Rows, list_of}
use Rattle.pk_index.specs.Terms.{words_in}
use Rattle.pk_index.proofs.HitLemmas.{answer_is, both_true, left, right}

-- the word begins so, and the number is live and in its list
abbrev pub gives : Rows → List ℕ → List ℕ → ℕ → List ℕ → Bool
gives table live prefix n word = begins_with prefix word && has (intersection live (list_of table word)) n

-- a word whose list has a number is in the table
here : (word : List ℕ) (row : List ℕ × List ℕ) (rows : Rows) (n : ℕ) (b : Bool) → bytes_eq word row.0 ≡ b → (has (list_of rows word) n ≡ true → Contains (words_in rows) word)
    → has (cond b row.1 (list_of rows word)) n ≡ true → Contains (words_in (row ∷ rows)) word
here word row rows n true same more e = (0, omega arith, sym ((bytes_eq-Decides word row.0).0 same))
here word row rows n false same more e = let found = more e in (suc found.0, omega (arith, found.1), found.2)

there : (table : Rows) (word : List ℕ) (n : ℕ) → has (list_of table word) n ≡ true → Contains (words_in table) word
there [] word n e = absurd (true≢false (sym e))
there (row ∷ rows) word n e = here word row rows n (bytes_eq word row.0) refl (there rows word n) e

module _ (table : Rows) (docs : List Doc) (live prefix : List ℕ) (keeps : Keeps table docs) (same : live ≡ numbers_of docs) where
  -- the live numbers in the list of a word are its answer
  word_live : (word : List ℕ) → intersection live (list_of table word) ≡ answer (Term word) docs
  word_live word = answer_is (Term word) live (list_of table word) docs same (keeps.each word)

  some : (n : ℕ) → list_any (gives table live prefix n) (words_in table) ≡ true → HasPrefix prefix docs n
  some n e =
      let found = Any-from_list_any (gives table live prefix n) (words_in table) e in
      let word = found.1 in
      let list = intersection live (list_of table word) in (
        word,
        left (begins_with prefix word) (has list n) found.4,
        ap (λ ns. has ns n) (sym (word_live word)) ∙ right (begins_with prefix word) (has list n) found.4,
      )

  all : (n : ℕ) → HasPrefix prefix docs n → list_any (gives table live prefix n) (words_in table) ≡ true
  all n w =
      let list = list_of table w.0 in
      let hit : has (intersection live list) n ≡ true = ap (λ ns. has ns n) (word_live w.0) ∙ w.2 in
      let at = there table w.0 n (right (has live n) (has list n) (sym (has_intersection live list n) ∙ hit)) in
      list_any-from_Any (gives table live prefix n) (words_in table)
      (at.0, w.0, at.1, at.2, both_true (begins_with prefix w.0) (has (intersection live list) n) w.1 hit)

  pub prefix_is : (out : List ℕ) → IsStrictlyIncreasing live → IsStrictlyIncreasing out → ((n : ℕ) → has out n ≡ list_any (gives table live prefix n) (words_in table)) → out ≡ answer (Prefix prefix) docs
  prefix_is out rising rises says =
      prefix_found prefix out docs (subst IsStrictlyIncreasing same rising) rises
      (λ n e. some n (sym (says n) ∙ e))
      (λ n w. says n ∙ all n w)
