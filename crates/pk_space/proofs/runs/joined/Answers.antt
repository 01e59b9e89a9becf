-- One extent more, which goes with the one before it or not.
use Rattle.std.proofs.Common.{◌≡◌, ◌∙◌, ◌+◌, ◌++◌, ◌∷◌, [], ap, ap₂, append_assoc, drop, get_or, refl, sym}
use Rattle.std.specs.List.{list_all, list_any}
use Rattle.std.specs.Global.{Vec}
use Rattle.std.proofs.lemmas.List.{drop_more}
use Rattle.pk_disk.specs.declared.units.Extent.{Extent}
use Rattle.pk_disk.specs.Units.{lies_within}
use Rattle.pk_space.specs.Free.{has_unit}
use Rattle.pk_space.proofs.JoinLemmas.{AreJoined, all_joined, any_joined}
use Rattle.pk_space.proofs.runs.joined.Goals as goal
use Rattle.pk_space.proofs.runs.joined.Goals.{then-last-e, else-last-e+in_ok-push}

pub loop-e-preserved : goal.loop-e-preserved
loop-e-preserved c =
    let none : Extent = record { first = 0; units = 0; bytes = 0 } in
    let rest = c.in-Some.rest.now in
    let i = c.loop-e.e-index in
    let e = get_or rest i none in
    let es = drop (i + 1) rest in
    let xs = c.loop-e.joined.items in
    let x = c.loop-e.last in
    let more : drop i rest ≡ e ∷ es = drop_more rest i none c.loop-e-test.true in
    let before = c.loop-e.invariant in
    elim c.if-last-e.branch [
      | then-last-e w ↦
          let y : Extent = record { first = x.first; units = x.units + e.units; bytes = x.bytes } in
          let joined : AreJoined x e y = record { first = refl; units = refl; meet = w.if-last-e.true } in
          let items = ap (λ (v : Vec Extent). v.items) w.joined-is in
          record {
            units = λ u. ap₂ (λ js z. list_any (has_unit u) (js ++ z ∷ es)) items w.last-is ∙ any_joined u xs es x e y joined ∙ ap (λ ds. list_any (has_unit u) (xs ++ x ∷ ds)) (sym more) ∙ before.units u;
            within = λ n all. ap₂ (λ js z. list_all (lies_within n) (js ++ z ∷ es)) items w.last-is
                ∙ all_joined n xs es x e y joined (ap (λ ds. list_all (lies_within n) (xs ++ x ∷ ds)) (sym more) ∙ before.within n all);
          }
      | else-last-e+in_ok-push w ↦
          let items = ap (λ (v : Vec Extent). v.items) w.joined-is ∙ w.in_ok-push.ensures.items in
          let same : (xs ++ x ∷ []) ++ e ∷ es ≡ xs ++ x ∷ drop i rest = append_assoc xs (x ∷ []) (e ∷ es) ∙ ap (λ ds. xs ++ x ∷ ds) (sym more) in
          record {
            units = λ u. ap₂ (λ js z. list_any (has_unit u) (js ++ z ∷ es)) items w.last-is ∙ ap (list_any (has_unit u)) same ∙ before.units u;
            within = λ n all. ap₂ (λ js z. list_all (lies_within n) (js ++ z ∷ es)) items w.last-is ∙ ap (list_all (lies_within n)) same ∙ before.within n all;
          }
    ]
