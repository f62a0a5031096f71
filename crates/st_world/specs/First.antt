-- Where a server stands before its first event.
use Rattle.std.specs.Prelude.{ℕ}
use Rattle.st_words.specs.declared.deployment.Deployment.{Deployment}
use Rattle.st_words.specs.declared.ids.ServerId.{ServerId}
use Rattle.st_message.specs.declared.here.Here.{Here}

-- in view and local view 0, with nothing executed and no leaf used
abbrev pub first_here : Deployment → ServerId → ℕ → Here
first_here d me capacity =
    record {
      id = d.id;
      me = me;
      sites = d.sites;
      f = d.f;
      view = record { 0 = 0 };
      local = record { 0 = 0 };
      executed = 0;
      leaf = 0;
      capacity = capacity;
    }
