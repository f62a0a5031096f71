-- What a key is to those who see only its seals.
use Rattle.st_lms.specs.TreeSecrets.{secret_of}
use Rattle.st_hss.specs.declared.key.HssKey.{HssKey}
use Rattle.st_hss.specs.declared.secret.HssSecret.{HssSecret}

-- what the key was made from
abbrev pub hss_secret_of : HssKey → HssSecret
hss_secret_of key = record { levels = key.levels; first = secret_of key.first }
