-- Which statements servers seal, and what a word without a dot is.
use Rattle.std.proofs.Common.{◌≡◌, ◌∙◌, ℕ, ◌+◌, ◌==◌, List, [], false, true, length, Option, Some, None, refl, ap, arith}
use Rattle.std.specs.Prelude.{IsTrue, option_and_then}
use Rattle.std.specs.List.{position_or_len, before_first}
use Rattle.std.specs.Option.{option_map}
use Rattle.std.proofs.lemmas.Fmt.{decimal_nonempty}
use Rattle.std.proofs.lemmas.List.{drop_all}
use Rattle.st_fields.specs.Spelling.{is_among}
use Rattle.st_words.specs.declared.ids.ServerId.{ServerId}
use Rattle.st_words.specs.declared.statement.Statement.{Statement}
use Rattle.st_words.specs.declared.statement.Statement.TheVariants.{Prepare, Proposal, Accept, LocalVc, GlobalVc, LocalReport, GlobalReport, LocalUnion, GlobalUnion, Reply, ClientUpdate}
use Rattle.st_words.specs.Kind.{kind_number, kind_of}
use Rattle.st_texts.proofs.NumberLaws.{number_in-none}
use Rattle.st_schedule.specs.Lines.{sealed_kinds, short_in, server_of}
use Rattle.st_schedule.specs.Ranges.{IsServers}

-- a statement of one of the kinds that servers seal is a server's
pub servers_kind : (s : Statement) → IsTrue (is_among kind_number sealed_kinds (kind_of s)) → IsServers s
servers_kind (ClientUpdate update) among = absurd (let no : false ≡ true = among in cc)
servers_kind _ among = tt

-- and a server's is of one of them
pub kind_of_servers : (s : Statement) → IsServers s → IsTrue (is_among kind_number sealed_kinds (kind_of s))
kind_of_servers (ClientUpdate update) h = absurd h
kind_of_servers (Prepare site view local n v) h = refl
kind_of_servers (Proposal site view local n v) h = refl
kind_of_servers (Accept site view n v) h = refl
kind_of_servers (LocalVc site local) h = refl
kind_of_servers (GlobalVc site view) h = refl
kind_of_servers (LocalReport site local index view base items) h = refl
kind_of_servers (GlobalReport site view index base items) h = refl
kind_of_servers (LocalUnion site local greatest base items) h = refl
kind_of_servers (GlobalUnion site view base items) h = refl
kind_of_servers (Reply site client time n outcome) h = refl

-- no digits are no number
nothing_short : short_in [] ≡ None
nothing_short = number_in-none 0 255 [] (λ n low high e. let some = decimal_nonempty n (omega arith) in omega (arith, ap length e, some))

-- a site without an index is no server
half : (site : Option ℕ) (index : Option ℕ) → index ≡ None → option_and_then {U = ServerId} (λ s. option_map (λ i. record { site = s; index = i }) index) site ≡ None
half None index e = refl
half (Some s) None e = refl
half (Some s) (Some i) e = absurd (let no : Some i ≡ None = e in cc)

-- without a dot there is no server
pub no_dot : (word : List ℕ) → position_or_len (λ b. b == 46) word ≡ length word → server_of word ≡ None
unfolding server_of
no_dot word at =
    half (short_in (before_first (λ b. b == 46) word)) _ (ap short_in (drop_all (position_or_len (λ b. b == 46) word + 1) word (omega (arith, at))) ∙ nothing_short)
