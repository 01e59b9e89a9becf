-- One word more of the phrase, from its end.
use Rattle.std.proofs.Common.{◌≡◌, ◌<◌, ◌+◌, ◌-◌, ◌++◌, ◌∷◌, ◌∙◌, [], length, map, take, get_or, reverse, sym, ap, arith, append_assoc, string_bytes}
use Rattle.std.proofs.lemmas.List.{length-map, reverse-append, take_more}
use Rattle.pk_plan.specs.Words.{texts}
use Rattle.pk_plan.proofs.WordLemmas.{same_row, texts_append}
use Rattle.pk_plan.proofs.words.put_row.Goals as goal

pub words-preserved : goal.words-preserved
words-preserved c =
    let row = map string_bytes c.args.row.now in
    let old = texts c.words.words.items in
    let n = c.words.left - 1 in
    let on : n + 1 ≡ c.words.left = omega (arith, c.words-test.true) in
    let within : n < length c.args.row.now = omega (arith, c.words-test.true, c.words.invariant.within) in
    let word = get_or row n [] in
    let lent : c.as_str.result.now ≡ word = c.as_str.ensures.value ∙ same_row string_bytes c.args.row.now n c.index-row-left.result within c.index-row-left.is in
    let pushed : texts c.push.new.self.items ≡ old ++ word ∷ [] =
    ap texts c.in_ok-push.ensures.ok ∙ texts_append c.words.words.items (c.as_str.result ∷ []) ∙ ap (λ w. old ++ w ∷ []) lent in
    let back : reverse (take (n + 1) row) ≡ word ∷ reverse (take n row) =
    ap reverse (take_more row n [] (rw length-map within)) ∙ reverse-append (take n row) (word ∷ []) in
    record {
      within = omega (arith, within);
      words = ap (λ ws. ws ++ reverse (take n row)) pushed ∙ append_assoc old (word ∷ []) (reverse (take n row))
          ∙ ap (λ ws. old ++ ws) (sym back) ∙ ap (λ k. old ++ reverse (take k row)) on ∙ c.words.invariant.words;
    }
