-- What a server reads is exact, and every seal in it checks.
use Rattle.std.proofs.Common.{◌≡◌, ℕ, Bool, true, false, cond, List, [], ◌∷◌, subst, refl}
use Rattle.std.specs.Prelude.{Option, Some, None, map}
use Rattle.std.specs.List.{AllByRecursion as Each}
use Rattle.st_message.specs.declared.message.Message.{Message}
use Rattle.st_message.specs.declared.reason.Reason.TheVariants.{BadSeal}
use Rattle.st_protocol.specs.Keeping.{given}
use Rattle.st_protocol.specs.Duty.{Reading, Faulty, Clean}
use Rattle.st_protocol.specs.Known.{Sealed, seals_of}
use Rattle.st_protocol.specs.World.{SealIn, Deployment, first_bad, checks_in, bad_seal, with_seals, read_known, reads}
use Rattle.st_frame_laws.specs.Exact.{MessageIsExact}
use Rattle.st_frame_laws.proofs.ExactLaws.{known_parts}
use Rattle.st_honest_laws.specs.Honest.{without_place, SealsAreRead}

module _ {Wire : Type 0} (d : Deployment Wire) where
  -- a seal that checks
  abbrev pub Holds : Sealed → Type 0
  Holds x = d.formats.holds x.who x.statement x.seal ≡ true

  -- what is read with all tests was read, is exact, and all its seals check
  pub record IsChecked (wire : Wire) (m : Message) : Type 0 where
    pub read : d.formats.read wire ≡ Clean m
    pub exact : MessageIsExact d m
    pub holds : Each Holds (seals_of d.sites m)

  -- of seals of which none is bad, each checks
  good_seals : (xs : List SealIn) → first_bad (checks_in d) xs ≡ None → Each Holds (map without_place xs)
  unfolding first_bad
  good_seals [] e = tt
  good_seals (x ∷ xs) e = let parts = by (checks_in d x) refl e in (parts.0, good_seals xs parts.1)
    where
      by : (b : Bool) → checks_in d x ≡ b → cond b (first_bad (checks_in d) xs) (Some x.place) ≡ None → Holds (without_place x) × (first_bad (checks_in d) xs ≡ None)
      by true is none = (is, none)
      by false is none = absurd (let no : Some x.place ≡ None = none in cc)

  -- What a server reads.
  pub reads_checked : (In : Message → Type 0) (formats : SealsAreRead d In) (wire : Wire) (m : Message) → ((n : Message) → d.formats.read wire ≡ Clean n → In n) → reads d wire ≡ Clean m → IsChecked wire m
  reads_checked In formats wire m inside e = by (read_known d wire) refl e
    where
      clean : (a b : Message) → Clean a ≡ Clean b → a ≡ b
      clean a b f = cc

      sealed : (n : Message) → read_known d wire ≡ Clean n → (bad : Option ℕ) → bad_seal d n ≡ bad → given bad (Clean n) (λ place. Faulty (BadSeal place)) ≡ Clean m → IsChecked wire m
      sealed n k None none f =
          let read : d.formats.read wire ≡ Clean n = (known_parts d wire n k).0 in
          subst (IsChecked wire) (clean n m f)
          (record { read = read; exact = formats.exact wire n k; holds = subst (Each Holds) (formats.seals wire n (inside n read) read) (good_seals (d.formats.seals_in n) none) })
      sealed n k (Some place) bad f = absurd (let no : Faulty (BadSeal place) ≡ Clean m = f in cc)

      by : (r : Reading) → read_known d wire ≡ r → with_seals d r ≡ Clean m → IsChecked wire m
      by (Faulty reason) k f = absurd (let no : Faulty reason ≡ Clean m = f in cc)
      by (Clean n) k f = sealed n k (bad_seal d n) refl f
