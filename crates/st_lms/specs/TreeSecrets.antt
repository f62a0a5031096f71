-- What a tree is to those who don't see its nodes.
use Rattle.st_lms.specs.declared.tree.Tree.{Tree}
use Rattle.st_lms.specs.declared.secret.LmsSecret.{LmsSecret}

-- what the tree was made from
abbrev pub secret_of : Tree → LmsSecret
secret_of tree = tree.secret
