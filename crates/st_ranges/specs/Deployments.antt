-- Of which deployments and event lines it is claimed that what is sent keeps its ranges.
use Rattle.std.specs.Prelude.{◌≡◌, ℕ, ◌^◌, ◌<◌, ◌&&◌, not, nat_lt, false, IsTrue, [], ◌∷◌}
use Rattle.st_words.specs.declared.ids.Who.{Who}
use Rattle.st_message.specs.declared.message.Message.{Message}
use Rattle.st_schedule.specs.declared.line.Line.{Line}
use Rattle.st_schedule.specs.declared.line.Line.TheVariants as lines
use Rattle.st_schedule.specs.Ranges.{KeepsLine, FitsLine}
use Rattle.st_protocol.specs.Duty.{Clean}
use Rattle.st_protocol.specs.World.{Deployment, passed, servers_of, is_server}
use Rattle.st_ranges.specs.Ranges.{MessageInRange, ReadingInRange, PenKeeps, ServeKeeps}

-- A deployment whose numbers are of their widths, whose seals and service keep their ranges, and in which only servers
-- that it has run code.
pub record KeepsRanges {Wire : Type 0} (d : Deployment Wire) : Type 0 where
  pub sites : d.sites < 2 ^ 8
  pub servers : servers_of d < 2 ^ 8
  pub capacity : d.capacity < 2 ^ 32
  pub serve : ServeKeeps d.serve
  pub seals : (who : Who) → PenKeeps (d.formats.seal who)
  pub runs : (site index : ℕ) → d.faulty site index ≡ false → IsTrue (is_server d site index)

-- Such a deployment, in which a message in range is read as it was sent, if as any.
pub record DeploymentInRange {Wire : Type 0} (d : Deployment Wire) : Type 0 where
  pub keeps : KeepsRanges d
  pub reads : (m n : Message) → MessageInRange m → d.formats.read (d.formats.encode m) ≡ Clean n → n ≡ m

-- bytes from outside are read as a message in range, if as any
abbrev pub OutsideInRange : {Wire : Type 0} → Deployment Wire → Line → Type 0
OutsideInRange d (lines.Raw to bytes) = ReadingInRange (d.formats.read (d.formats.raw bytes))
OutsideInRange d _ = Unit {0}

-- A line of the grammar, whose bytes from outside, if it has any, are read so.
abbrev pub LineInRange : {Wire : Type 0} → Deployment Wire → Line → Type 0
LineInRange d line = KeepsLine line × FitsLine line × OutsideInRange d line

-- The encoding of a message in range.
pub record IsEncoded {Wire : Type 0} (d : Deployment Wire) (wire : Wire) : Type 0 where
  pub message : Message
  pub spells : wire ≡ d.formats.encode message
  pub inside : MessageInRange message

-- One site of one correct server, whose service answers an operation with itself. Messages are passed as they are, and a
-- seal is one byte.
abbrev pub one_server : Deployment Message
one_server =
    record {
      id = 0;
      sites = 1;
      f = 0;
      clients = 1;
      capacity = 1;
      serve = λ ran op. op;
      faulty = λ site index. not (nat_lt site 1 && nat_lt index 1);
      formats = passed (λ who leaf s. 0 ∷ []);
    }
