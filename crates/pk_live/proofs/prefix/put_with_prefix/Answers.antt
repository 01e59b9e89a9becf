-- One word more; at the end the lists are united.
use Rattle.std.proofs.Common.{◌≡◌, ◌∙◌, ◌||◌, ◌&&◌, true, false, Bool, ℕ, List, Some, take, refl, sym, ap, ap₂, arith}
use Rattle.std.proofs.lemmas.List.{length-map, take_all}
use Rattle.std.proofs.lemmas.Option.{get_or_from_slice_get, slice_get_within}
use Rattle.std.specs.List.{list_any}
use Rattle.pk_union.proofs.UnionLemmas.{any_more}
use Rattle.pk_model.specs.Tree.{begins_with}
use Rattle.pk_sets.proofs.CallerLemmas.{has_union}
use Rattle.pk_sets.specs.Sets.{has, intersection}
use Rattle.pk_index.specs.Index.{list_of}
use Rattle.pk_index.specs.Terms.{words_in}
use Rattle.pk_live.proofs.PrefixLemmas.{prefix_is, gives}
use Rattle.pk_live.proofs.prefix.put_with_prefix.Goals.{else-starts_with, then-starts_with+in_ok-unite_live}
use Rattle.pk_live.proofs.prefix.put_with_prefix.Goals as goal

or_none : (a b c : Bool) → b ≡ false → a ≡ (a || (b && c))
or_none true b c e = refl
or_none false b c e = sym (ap (λ x. x && c) e)

and_true : (b c : Bool) → b ≡ true → c ≡ (b && c)
and_true b c e = ap (λ x. x && c) (sym e)

same_some : (v w : List ℕ) → Some v ≡ Some w → v ≡ w
same_some v w e = cc

pub loop-place-preserved : goal.loop-place-preserved
loop-place-preserved c =
    let before = c.loop-place.invariant in
    let table = c.args.index.now in
    let live = c.args.live.now in
    let prefix = c.args.prefix.now in
    let words = words_in table in
    let place = c.loop-place.place in
    let word = c.word.result.now in
    let lt = slice_get_within words place word c.word.ensures in
    let at = sym (get_or_from_slice_get words place word word c.word.ensures) in
    let so_far = λ (n : ℕ). list_any (gives table live prefix n) (take place words) in
    let gives_n = λ (n : ℕ). has (intersection live (list_of table word)) n in
    let more = λ (n : ℕ). sym (any_more (gives table live prefix n) words place word lt at) in
    let begins = sym (c.starts_with.ensures.value ∙ ap₂ (λ (w b : List ℕ). begins_with b w) c.as_bytes-word.ensures.value c.as_bytes.ensures.value) in
    elim c.if-starts_with.branch [
      | then-starts_with+in_ok-unite_live w ↦
          let row = w.row.result in
          let same : row.word.now ≡ word = same_some row.word.now word (sym w.row.ensures.word ∙ c.word.ensures) in
          let list : row.list.now ≡ list_of table word = sym w.row.ensures.list ∙ ap (list_of table) same in
          let yes = begins ∙ w.if-starts_with.true in
          λ n.
          ap (λ (ns : List ℕ). has ns n) (w.united-is ∙ w.in_ok-unite_live.ensures)
          ∙ has_union c.loop-place.united (intersection live row.list.now) n
          ∙ ap (λ b. b || has (intersection live row.list.now) n) (before n)
          ∙ ap (λ (ns : List ℕ). so_far n || has (intersection live ns) n) list
          ∙ ap (λ b. so_far n || b) (and_true (begins_with prefix word) (gives_n n) yes)
          ∙ more n
      | else-starts_with w ↦
          let no = begins ∙ w.if-starts_with.false in
          λ n.
          ap (λ (ns : List ℕ). has ns n) w.united-is
          ∙ before n ∙ or_none (so_far n) (begins_with prefix word) (gives_n n) no ∙ more n
    ]

pub loop-place-init : goal.loop-place-init
loop-place-init c = λ n. ap (λ (ns : List ℕ). has ns n) c.new-united.ensures

pub returns-clause-numbers : goal.returns-clause-numbers
returns-clause-numbers c = λ docs keeps live.
    let table = c.args.index.now in
    let words = words_in table in
    let all : take c.loop-place.place words ≡ words = take_all c.loop-place.place words (omega (arith, c.loop-place-test.false, length-map table (λ row. row.0))) in
    prefix_is table docs c.args.live.now c.args.prefix.now keeps live
    c.finish.new.out.items c.requires.live c.in_ok-finish.ensures.rising
    (λ n. ap (λ (ns : List ℕ). has ns n) c.in_ok-finish.ensures.numbers ∙ c.loop-place.invariant n ∙ ap (list_any (gives table c.args.live.now c.args.prefix.now n)) all)
