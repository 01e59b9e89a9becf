-- Each extent that is named has a unit, since the table and the entries were judged before.
use Rattle.std.proofs.Common.{◌≡◌, ◌<◌, ◌∙◌, ap, subst, sym, true}
use Rattle.std.specs.Prelude.{All}
use Rattle.std.specs.List.{list_all}
use Rattle.std.proofs.lemmas.Bool.{false≢true}
use Rattle.pk_disk.specs.declared.units.Extent.{Extent}
use Rattle.pk_manifest.specs.Sound.{is_part, is_table}
use Rattle.pk_manifest.specs.Spelling.{table_size, view}
use Rattle.pk_manifest.proofs.Apart.{has_unit}
use Rattle.pk_manifest.proofs.Ends.{each_judged}
use Rattle.pk_manifest.proofs.manifest.Manifest.is_sound.Goals as goal
use Rattle.pk_manifest.proofs.manifest.Manifest.is_sound.Goals.{then-len-most_entries, else-len-most_entries, then-is_table, else-is_table, then-are_parts, else-are_parts}

pub are_apart-requires : goal.are_apart-requires
are_apart-requires c =
    let body = view c.args.self.now in
    let units = c.args.units in
    let P = λ (e : Extent). 0 < e.units in
    elim c.if-are_parts.branch [
      | else-are_parts w ↦ absurd (false≢true (sym w.if-are_parts.false ∙ sym w.value-is ∙ c.if-is_distinct.true))
      | then-are_parts w ↦ elim c.if-is_table.branch [
        | else-is_table v ↦ absurd (false≢true (sym v.if-is_table.false ∙ sym v.value-is ∙ w.if-are_parts.true))
        | then-is_table v ↦ elim c.if-len-most_entries.branch [
          | else-len-most_entries u ↦ absurd (false≢true (sym u.if-len-most_entries.false ∙ sym u.value-is ∙ v.if-is_table.true))
          | then-len-most_entries u ↦
              let parts : list_all (is_part units body.next_segment) body.entries ≡ true
              = ap (list_all (is_part units body.next_segment)) (sym v.deref-then-is_table.ensures.value) ∙ sym v.are_parts.ensures ∙ sym v.value-is ∙ w.if-are_parts.true in
              let table : is_table units (table_size body) body.table ≡ true
              = ap (λ size. is_table units size body.table) (sym u.table_size.ensures) ∙ sym u.is_table.ensures ∙ sym u.value-is ∙ v.if-is_table.true in
              subst (All P) (sym (c.deref_mut.ensures.value ∙ c.in_ok-extents.ensures)) (each_judged P units (has_unit units) body table parts)
        ]
      ]
    ]
