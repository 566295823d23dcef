-- The rights of a set, by their places, and reads at EL1.
use Rattle.std.proofs.Common.{◌≡◌, ℕ, ◌^◌, Bool, true, false, eqb, ◌∙◌, arith}
use Rattle.std.specs.Prelude.{bit_and}
use Rattle.std.specs.Int.{bit_at}
use Rattle.std.proofs.lemmas.Nat.{pow_pos}
use Rattle.std.proofs.lemmas.Nat.Bits.{and_pow, bit_at-lt}
use Rattle.std.proofs.lemmas.Grind.{common_steps}
use Rattle.permissions.specs.Rights.{Rights, perms_of, has, rights1, needed, is_allowed1}
use Rattle.permissions.specs.declared.set.Perms.{Perms}
use Rattle.permissions.specs.declared.bits.El.{El}
use Rattle.permissions.specs.declared.bits.El.TheVariants.{El0, El1}
use Rattle.permissions.specs.declared.bits.Kind.{Kind}
use Rattle.permissions.specs.declared.bits.Kind.TheVariants.{Read, Write, Fetch}
use Rattle.permissions.specs.declared.bits.Bits1.{Bits1}
use Rattle.permissions.specs.declared.bits.TableBits.{TableBits}

-- one bit of a number, as a test under a mask
pub one_bit : (n k : ℕ) → eqb (bit_and n (2 ^ k)) (2 ^ k) ≡ eqb (bit_at n k) 1
one_bit n k = grind (arith, and_pow n k, bit_at-lt n k, pow_pos k)

pub has_r0 : (r : Rights) → has (perms_of r) 0 ≡ r.r0
unfolding perms_of has
has_r0 r = grind (arith, common_steps)

pub has_w0 : (r : Rights) → has (perms_of r) 1 ≡ r.w0
unfolding perms_of has
has_w0 r = grind (arith, common_steps)

pub has_x0 : (r : Rights) → has (perms_of r) 2 ≡ r.x0
unfolding perms_of has
has_x0 r = grind (arith, common_steps)

pub has_r1 : (r : Rights) → has (perms_of r) 3 ≡ r.r1
unfolding perms_of has
has_r1 r = grind (arith, common_steps)

pub has_w1 : (r : Rights) → has (perms_of r) 4 ≡ r.w1
unfolding perms_of has
has_w1 r = grind (arith, common_steps)

pub has_x1 : (r : Rights) → has (perms_of r) 5 ≡ r.x1
unfolding perms_of has
has_x1 r = grind (arith, common_steps)

-- the right that an access needs
abbrev pub right_of : Rights → El → Kind → Bool
right_of r El0 Read = r.r0
right_of r El0 Write = r.w0
right_of r El0 Fetch = r.x0
right_of r El1 Read = r.r1
right_of r El1 Write = r.w1
right_of r El1 Fetch = r.x1

pub has_of : (r : Rights) → (el : El) → (kind : Kind) → has (perms_of r) (needed el kind) ≡ right_of r el kind
has_of r El0 Read = has_r0 r
has_of r El0 Write = has_w0 r
has_of r El0 Fetch = has_x0 r
has_of r El1 Read = has_r1 r
has_of r El1 Write = has_w1 r
has_of r El1 Fetch = has_x1 r

-- without PAN a set gives what its rights say
pub allowed_without_pan : (p : Perms) → (uxn : Bool) → (el : El) → (kind : Kind) → (epan : Bool)
    → is_allowed1 p uxn el kind false epan ≡ has p (needed el kind)
unfolding is_allowed1
allowed_without_pan p uxn el kind epan = grind (arith, common_steps)

pub gives_read1 : (p : Perms) → (uxn epan : Bool) → is_allowed1 p uxn El1 Read false epan ≡ has p 3
gives_read1 p uxn epan = allowed_without_pan p uxn El1 Read epan

-- stage 1 lets EL1 read whatever it maps
pub reads1 :
    (leaf : Bits1) → (tables : TableBits) → (dirty wxn uxn epan : Bool) →
    is_allowed1 (perms_of (rights1 leaf tables dirty wxn)) uxn El1 Read false epan ≡ true
reads1 leaf tables dirty wxn uxn epan =
    let rights = rights1 leaf tables dirty wxn in
    gives_read1 (perms_of rights) uxn epan ∙ has_r1 rights
