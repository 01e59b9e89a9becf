-- One number more, which is kept where the words stand in its text.
use Rattle.std.proofs.Common.{◌∙◌, ◌++◌, ◌∷◌, [], take, append-nil, true, false, sym, ap, List, ℕ, arith, map}
use Rattle.std.proofs.lemmas.List.{take_all}
use Rattle.std.specs.Global.{Vec}
use Rattle.std.specs.List.{filter}
use Rattle.pk_model.specs.Views.{doc_of}
use Rattle.pk_words.specs.Rows.{texts}
use Rattle.pk_live.specs.InRow.{stands}
use Rattle.pk_live.proofs.InRowLemmas.{kept_more}
use Rattle.pk_live.proofs.in_row.keep_in_row.Goals as goal
use Rattle.pk_live.proofs.in_row.keep_in_row.Goals.{then-stands+in_ok-push, else-stands}

pub loop-i-preserved : goal.loop-i-preserved
loop-i-preserved c =
    let p = stands (texts c.args.row.now) c.args.live.now (map doc_of c.args.documents.now) in
    let ns = c.args.numbers.now.items in
    let i = c.loop-i.i in
    let x = c.index-number.result.now in
    elim c.if-stands.branch [
      | then-stands+in_ok-push w ↦
          ap (λ (v : Vec ℕ). v.items) w.kept-is ∙ w.in_ok-push.ensures.items ∙ ap (λ (ms : List ℕ). ms ++ x ∷ []) c.loop-i.invariant
          ∙ sym (kept_more p ns i x true (omega arith) c.index-number.ensures (sym c.in_ok-stands.ensures ∙ w.if-stands.true))
      | else-stands w ↦
          ap (λ (v : Vec ℕ). v.items) w.kept-is ∙ c.loop-i.invariant ∙ sym (append-nil (filter p (take i ns)))
          ∙ sym (kept_more p ns i x false (omega arith) c.index-number.ensures (sym c.in_ok-stands.ensures ∙ w.if-stands.false))
    ]

pub returns : goal.returns
returns c =
    let p = stands (texts c.args.row.now) c.args.live.now (map doc_of c.args.documents.now) in
    c.loop-i.invariant ∙ ap (filter p) (take_all c.loop-i.i c.args.numbers.now.items (omega arith))
