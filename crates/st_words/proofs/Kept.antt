-- What the ranges of a list of items say of each item.
use Rattle.std.proofs.Common.{List, [], ◌∷◌, All}
use Rattle.std.proofs.lemmas.List.Elements.{All-nil, All-cons}
use Rattle.st_fields.specs.Spelling.{KeepsEach}
use Rattle.st_words.specs.declared.statement.Item.{Item}
use Rattle.st_words.specs.declared.limits.ItemLimits.{ItemLimits}
use Rattle.st_words.specs.Ranges.{KeepsValue, KeepsItem, after_item}

-- each item's value keeps its ranges
pub kept_values : (limits : ItemLimits) (items : List Item) → KeepsEach KeepsItem after_item limits items → All (λ (i : Item). KeepsValue i.value) items
kept_values limits [] keeps = All-nil (λ (i : Item). KeepsValue i.value)
kept_values limits (i ∷ items) keeps = All-cons (λ (j : Item). KeepsValue j.value) i items keeps.0.4 (kept_values (after_item limits i) items keeps.1)
