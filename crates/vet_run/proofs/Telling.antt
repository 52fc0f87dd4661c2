-- What is told of lines that say no rule, one more at a time.
use Rattle.std.proofs.Common.{◌≡◌, ℕ, List, [], ◌∷◌, ◌++◌, Option, map, length, sym, ap, ◌∙◌}
use Rattle.std.proofs.lemmas.List.{map-append}
use Rattle.std.specs.Fmt.{◌++?◌}
use Rattle.std.proofs.Output.{then_text_assoc}
use Rattle.predicates_core.proofs.Listing.{nothing_behind, nothing_before}
use Rattle.vet_run.specs.RuleFaults.{joined_texts, behind_line_feed, texts_of_lines, text_behind}

pub joined_last : (ts : List (Option (List ℕ))) (t : Option (List ℕ)) → joined_texts (ts ++ t ∷ []) ≡ joined_texts ts ++? t
joined_last [] t = nothing_behind t ∙ sym (nothing_before t)
joined_last (s ∷ ts) t = ap (λ z. s ++? z) (joined_last ts t) ∙ sym (then_text_assoc s (joined_texts ts) t)

pub lines_last : (ts : List (Option (List ℕ))) (t : Option (List ℕ)) → texts_of_lines (ts ++ t ∷ []) ≡ texts_of_lines ts ++? text_behind (length ts) t
lines_last [] t = nothing_behind t ∙ sym (nothing_before t)
lines_last (s ∷ ts) t =
    ap (λ z. s ++? z) (ap joined_texts (map-append behind_line_feed ts (t ∷ [])) ∙ joined_last (map behind_line_feed ts) (behind_line_feed t))
    ∙ sym (then_text_assoc s (joined_texts (map behind_line_feed ts)) (behind_line_feed t))
