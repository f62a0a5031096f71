-- Of more than f servers of a site that answered a client alike, one is correct.
use Rattle.std.proofs.Common.{◌≡◌, ℕ, ◌<◌, ◌≤◌, Bool, true, false, sym, subst, arith}
use Rattle.std.proofs.lemmas.Bool.{and_parts, and_from, eqb-true, ltb-true, lt-ltb}
use Rattle.std.proofs.lemmas.Slice.Eq.{bytes_eq-Decides}
use Rattle.std.specs.Prelude.{◌&&◌, not, nat_eq, nat_lt, bytes_eq, Option, Some, None}
use Rattle.st_counts.specs.Counts.{count, Found, numbers_below}
use Rattle.st_counts.proofs.CountLaws.{count-both, count-not, found}
use Rattle.st_counts.proofs.MemberLaws.{numbers_below-lt}
use Rattle.st_protocol.specs.Keeping.{given}
use Rattle.st_protocol.specs.World.{Deployment, Answered, Customer, servers_of, is_correct, same_answered, agree_on}
use Rattle.st_answer_laws.proofs.SealLaws.{count_below-is}

-- more pass one test than pass another, so one passes the first and not the other
found_other : (test other : ℕ → Bool) (f n : ℕ) → f < count test (numbers_below n) → count other (numbers_below n) ≤ f → Found (λ i. test i && not (other i)) (numbers_below n)
found_other test other f n many few =
    let both = count-both test (λ i. not (other i)) (numbers_below n) in
    let rest = count-not other (numbers_below n) in found (λ i. test i && not (other i)) (numbers_below n) (omega (arith, many, few, both, rest))

module _ {Wire : Type 0} (d : Deployment Wire) where
  -- a reply that is the same
  same_reply : (a : Answered) (x : Option Answered) → given x false (same_answered d a) ≡ true → x ≡ Some a
  same_reply a None e = absurd (let no : false ≡ true = e in cc)
  same_reply a (Some b) e =
      let parts = and_parts (nat_eq a.number b.number) (bytes_eq a.result b.result) e in
      let number : b.number ≡ a.number = sym (eqb-true a.number b.number parts.0) in
      let result : b.result ≡ a.result = sym ((bytes_eq-Decides a.result b.result).0 parts.1) in (λ i. Some (record { number = number i; result = result i }))

  -- a correct server of a site whose reply this is
  pub record Voucher (customer : Customer) (site : ℕ) (a : Answered) : Type 0 where
    pub index : ℕ
    pub correct : is_correct d site index ≡ true
    pub replied : customer.replies site index ≡ Some a

  -- With more than f such replies of a site of which at most f servers are faulty, one is a correct server's.
  pub voucher : (customer : Customer) (site : ℕ) (a : Answered) → site < d.sites → count (d.faulty site) (numbers_below (servers_of d)) ≤ d.f → nat_lt d.f (agree_on d customer site a) ≡ true →
      Voucher customer site a
  voucher customer site a there few many =
      let test : (ℕ → Bool) = λ i. given (customer.replies site i) false (same_answered d a) in
      let enough : d.f < agree_on d customer site a = ltb-true d.f (agree_on d customer site a) many in
      let one : Found (λ i. test i && not (d.faulty site i)) (numbers_below (servers_of d)) =
      found_other test (d.faulty site) d.f (servers_of d) (subst (λ n. d.f < n) (count_below-is test (servers_of d)) enough) few in
      let parts = and_parts (test one.element) (not (d.faulty site one.element)) one.passes in
      record {
        index = one.element;
        correct =
            and_from (nat_lt site d.sites && nat_lt one.element (servers_of d)) (not (d.faulty site one.element))
            (and_from (nat_lt site d.sites) (nat_lt one.element (servers_of d)) (lt-ltb site d.sites there) (lt-ltb one.element (servers_of d) (numbers_below-lt one.element (servers_of d) one.among))) parts.1;
        replied = same_reply a (customer.replies site one.element) parts.0;
      }
