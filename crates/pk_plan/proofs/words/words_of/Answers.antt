use Rattle.std.proofs.Common.{◌∙◌, ◌++◌, List, ℕ, reverse, ap}
use Rattle.std.specs.Borrow.{Bor}
use Rattle.pk_model.specs.Tree.{tree_of}
use Rattle.pk_plan.specs.Words.{leaves, texts}
use Rattle.pk_plan.proofs.WordLemmas.{turned}
use Rattle.pk_plan.proofs.words.words_of.Goals as goal

pub returns : goal.returns
returns c =
    turned c.put_words.new.words.items c.reverse.new.self (leaves (tree_of c.args.query.now))
    (c.reverse.ensures.after ∙ ap reverse c.as_mut_slice.ensures.value)
    (c.in_ok-put_words.ensures ∙ ap (λ (ws : List (Bor (List ℕ))). texts ws ++ reverse (leaves (tree_of c.args.query.now))) c.new-words.ensures.items)
