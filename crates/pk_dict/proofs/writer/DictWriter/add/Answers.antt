-- A term in a group of its own or in one that has others: the draft has one item more.
use Rattle.std.proofs.Common.{arith, refl, subst, ◌^◌, sym, ap, ◌∙◌, ◌≡◌, ◌<◌, ◌%◌, ℕ, List, ◌++◌, ◌∷◌, [], length}
use Rattle.std.proofs.lemmas.List.{length-append}
use Rattle.pk_dict.specs.Dictionary.{Item, item_of, Fits, IsRising, spelling}
use Rattle.pk_dict.specs.declared.writer.DictWriter.{DictWriter}
use Rattle.pk_dict.proofs.Adding.{last_push, fits_push, starts_other, starts_done, body_first, body_other}
use Rattle.pk_dict.proofs.Same.{same_added}
use Rattle.pk_dict.proofs.Sizes.{last_within, body_within}
use Rattle.pk_dict.proofs.writer.DictWriter.add.Goals.{then-self-eq0+in_ok-put_first+in-Ok, else-self-eq0+in_ok-put_other}
use Rattle.pk_dict.proofs.writer.DictWriter.add.Goals as goal

long : (m : List Item) (e : Item) → length (spelling (m ++ e ∷ [])) < 2 ^ 32 → length e.term < 2 ^ 32
long m e size = omega (arith, last_within m e, size)

pub put_first-requires : goal.put_first-requires
put_first-requires c = long c.requires.items (item_of c.args.term.now c.args.frequency c.args.place) c.requires.next.size

pub put_other-requires : goal.put_other-requires
put_other-requires c = long c.requires.items (item_of c.args.term.now c.args.frequency c.args.place) c.requires.next.size

pub overflow_cast-start : goal.overflow_cast-start
overflow_cast-start c =
    omega (arith, ap (λ (l : List ℕ). length l) c.requires.added.body, body_within c.requires.items (item_of c.args.term.now c.args.frequency c.args.place), c.requires.next.size)

pub returns-clause-ok : goal.returns-clause-ok
returns-clause-ok c es d =
    let e : Item = record { term = c.args.term.now; entry = record { frequency = c.args.frequency; place = c.args.place } } in
    let m = c.requires in
    let whole : m.items ≡ es = same_added _ m.items es m.added d in
    let term = long m.items e m.next.size in
    let fits = λ (p : (c.args.place.at < 2 ^ 32) × (c.args.place.bytes < 2 ^ 32)). let f : Fits e = record { term = term; frequency = omega arith; at = p.0; bytes = p.1 } in fits_push es e d.fits f in
    let rising : IsRising (es ++ e ∷ []) = subst (λ (l : List Item). IsRising (l ++ e ∷ [])) whole m.next.rising in
    let size : length (spelling (es ++ e ∷ [])) < 2 ^ 32 = subst (λ (l : List Item). length (spelling (l ++ e ∷ [])) < 2 ^ 32) whole m.next.size in
    let last = c.in_ok-extend_from_slice.ensures.items ∙ ap (λ (l : List ℕ). l ++ e.term) c.clear.ensures.items ∙ sym (last_push [] es e) in
    elim c.if-self-eq0.branch [
      | then-self-eq0+in_ok-put_first+in-Ok w ↦
          let h : length es % 16 ≡ 0 = omega (arith, d.count, w.if-self-eq0.true) in
          let starts = ap (λ (s : DictWriter). s.starts.items) w.self-is in
          let body = ap (λ (s : DictWriter). s.body.items) w.self-is in
          let count = ap (λ (s : DictWriter). s.in_group) w.self-is in
          let lens = ap (λ (l : List ℕ). length l) d.body in
          record {
            rising = rising;
            fits = fits w.in_ok-put_first.ensures.fits;
            size = size;
            starts = starts ∙ w.in-Ok.ensures.items ∙ starts_done es e _ _ h d.starts (omega (arith, lens, w.len-start.ensures, c.args.self.now.body.ok));
            body = body ∙ w.in_ok-put_first.ensures.items ∙ body_first es e _ _ h d.body refl;
            last = last;
            count = omega (arith, count, length-append es (e ∷ []), d.count);
          }
      | else-self-eq0+in_ok-put_other w ↦
          let h : 0 < length es % 16 = omega (arith, d.count, w.if-self-eq0.false) in
          let starts = ap (λ (s : DictWriter). s.starts.items) w.self-is in
          let body = ap (λ (s : DictWriter). s.body.items) w.self-is in
          let count = ap (λ (s : DictWriter). s.in_group) w.self-is in
          record {
            rising = rising;
            fits = fits w.in_ok-put_other.ensures.fits;
            size = size;
            starts = starts ∙ d.starts ∙ sym (starts_other es e h);
            body = body ∙ w.in_ok-put_other.ensures.items ∙ body_other es e _ _ w.deref.result.now h d.body (w.deref.ensures.value ∙ c.reserve.ensures.items ∙ d.last) refl;
            last = last;
            count = omega (arith, count, length-append es (e ∷ []), d.count);
          }
    ]
