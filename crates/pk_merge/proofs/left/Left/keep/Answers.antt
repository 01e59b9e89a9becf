-- One document more.
use Rattle.std.proofs.Common.{◌∷◌, [], length, arith, sym, ap, subst}
use Rattle.std.proofs.lemmas.List.{length-append}
use Rattle.std.proofs.lemmas.List.Elements.{All-push}
use Rattle.std.specs.Prelude.{All}
use Rattle.pk_merge.specs.Keeping.{EndBy, kept_bytes}
use Rattle.pk_merge.specs.Left.{kept_in}
use Rattle.pk_merge.proofs.KeepLemmas.{bytes_snoc}
use Rattle.pk_merge.proofs.left.Left.keep.Goals as goal

pub invariant_of-self-2-clause-size : goal.invariant_of-self-2-clause-size
invariant_of-self-2-clause-size c =
    let ks = kept_in c.args.self.now in
    omega (
      arith,
      c.args.self.now.size,
      c.from.ensures,
      bytes_snoc ks c.args.kept,
      length-append ks (c.args.kept ∷ []),
      ap length c.in-Ok.ensures.items,
      ap kept_bytes c.in-Ok.ensures.items,
    )

pub invariant_of-self-2-clause-inside : goal.invariant_of-self-2-clause-inside
invariant_of-self-2-clause-inside c =
    subst (All (EndBy c.args.self.now.disk_bytes)) (sym c.in-Ok.ensures.items)
    (All-push (EndBy c.args.self.now.disk_bytes) (kept_in c.args.self.now) c.args.kept
    c.args.self.now.inside c.requires)
