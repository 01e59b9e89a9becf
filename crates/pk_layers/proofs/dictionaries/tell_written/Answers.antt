-- What may be added is added.
use Rattle.std.proofs.Common.{refl, ◌++◌, ◌∷◌, [], List}
use Rattle.pk_dict.specs.Dictionary.{Item, item_of}
use Rattle.pk_layers.proofs.dictionaries.tell_written.Goals as goal

pub add-requires : goal.add-requires
add-requires c = c.if-not-may_add.ensures.may refl c.loop-word.invariant.0 c.loop-word.invariant.1

pub loop-word-preserved : goal.loop-word-preserved
loop-word-preserved c =
    let es : List Item = c.loop-word.invariant.0 in
    (es ++ item_of _ _ _ ∷ [], c.in_ok-add.ensures.ok es c.loop-word.invariant.1)
