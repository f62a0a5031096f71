-- The list of the seals that were handed out, and the bytes under which a party's first seal over a statement is found.
use Rattle.std.specs.Prelude.{◌≡◌, ℕ, cond, ◌&&◌, Option, Some, None, List, [], ◌∷◌, ◌++◌}
use Rattle.std.specs.Ordering.{nat_cmp}
use Rattle.std.specs.Cmp.Lexicographic.{slice_cmp}
use Rattle.std.specs.BTreeMap.{BTreeMap, get_by}
use Rattle.st_words.specs.declared.ids.Who.{Who}
use Rattle.st_words.specs.declared.ids.Who.TheVariants as parties
use Rattle.st_words.specs.declared.statement.Statement.{Statement}
use Rattle.st_words.specs.Ranges.{KeepsStatement, FitsStatement}
use Rattle.st_words.specs.Spelling.{core_spelling}
use Rattle.st_message.specs.declared.made.MadeSeal.{MadeSeal}
use Rattle.st_protocol.specs.Words.{same_who, same_statement}
use Rattle.st_protocol.specs.World.{has_handed}

-- a party's bytes: its kind stands first, so that no client is taken for a server
abbrev pub party_spelling : Who → List ℕ
party_spelling (parties.Server server) = 0 ∷ server.site ∷ server.index ∷ []
party_spelling (parties.Client client) = 1 ∷ client.0 ∷ 0 ∷ []

-- a party and a statement
unfoldable pub key_spelling : Who → Statement → List ℕ
key_spelling who s = party_spelling who ++ core_spelling s

-- a seal of a party's over a statement
abbrev pub seal_of : Who → ℕ → Statement → MadeSeal
seal_of who leaf s = record { who = who; leaf = leaf; statement = s }

-- the leaf of the party's first seal over the statement, if it handed one out
unfoldable pub first_leaf : List MadeSeal → Who → Statement → Option ℕ
first_leaf [] who s = None
first_leaf (x ∷ xs) who s = cond (same_who x.who who && same_statement x.statement s) (Some x.leaf) (first_leaf xs who s)

-- the list once the seal is handed out: it is noted where it wasn't before
abbrev pub with_seal : List MadeSeal → Who → ℕ → Statement → List MadeSeal
with_seal list who leaf s = cond (has_handed list who leaf s) list (list ++ seal_of who leaf s ∷ [])

module _ {K : Type 0} (read : K → List ℕ) where
  -- what is kept under a key of these bytes, if anything is
  abbrev pub leaf_at : BTreeMap K ℕ → List ℕ → Option ℕ
  leaf_at leaves bytes = get_by (λ k. slice_cmp nat_cmp bytes (read k)) leaves

  -- For each party and each statement that can be sealed, the leaf of the list's first seal is kept.
  abbrev pub KeepsFirst : BTreeMap K ℕ → List MadeSeal → Type 0
  KeepsFirst leaves list = (who : Who) (s : Statement) → KeepsStatement s → FitsStatement s → leaf_at leaves (key_spelling who s) ≡ first_leaf list who s
