-- Which operations take more than others.
use Rattle.std.proofs.Common.{◌≡◌, true, not, refl}
use Rattle.std.specs.Prelude.{◌&&◌}
use Rattle.std.proofs.lemmas.Bool.{and_parts, and_from}
use Rattle.sysregs.specs.declared.regs.Op.{Op}
use Rattle.sysregs.specs.declared.regs.Op.TheVariants.{Vmalle1, Vae1, Vaae1, Vale1, Aside1, Ipas2e1, Ipas2le1, Vmalls12e1, Alle1}
use Rattle.sysregs.specs.Ops.{form_of}
use Rattle.tlbi_ops.specs.declared.inval.Inval.{Inval}
use Rattle.tlbi_ops.specs.declared.inval.Tag.{Tag}
use Rattle.tlbi_ops.specs.Covers.{is_stage1, shares_address, is_in, suits_asid, suits_level, suits_vmid, takes, covers}
use Rattle.tlbi_ops.specs.Laws.{TakesMore, Widens}

-- one operation takes what another does where its three tests pass more
by_parts : (less more : Op)
    → ((i : Inval) (t : Tag) → suits_vmid (form_of less).scope (record i { op = less }) t ≡ true →
    suits_vmid (form_of more).scope (record i { op = more }) t ≡ true)
    → ((i : Inval) (t : Tag) → is_in (form_of less).scope (record i { op = less }) t ≡ true
    → is_in (form_of more).scope (record i { op = more }) t ≡ true)
    → ((i : Inval) (t : Tag) → suits_asid (form_of less) (record i { op = less }) t ≡ true
    → suits_asid (form_of more) (record i { op = more }) t ≡ true)
    → ((t : Tag) → suits_level (form_of less) t ≡ true → suits_level (form_of more) t ≡ true) → TakesMore less more
unfolding covers
by_parts less more v s a l i t e =
    let j = record i { op = less } in
    let parts = and_parts (suits_vmid (form_of less).scope j t) (takes (form_of less) j t) e in
    let taken = and_parts (is_in (form_of less).scope j t && suits_asid (form_of less) j t) (suits_level (form_of less) t) parts.1 in
    let both = and_parts (is_in (form_of less).scope j t) (suits_asid (form_of less) j t) taken.0 in
    and_from _ _ (v i t parts.0) (and_from _ _ (and_from _ _ (s i t both.0) (a i t both.1)) (l t taken.1))

pub widens : Widens
widens = record {
  va_leaves = by_parts Vale1 Vae1 (λ i t e. e) (λ i t e. e) (λ i t e. e) (λ t e. refl);
  va_asid = by_parts Vae1 Vaae1 (λ i t e. e) (λ i t e. e) (λ i t e. refl) (λ t e. e);
  va_page = by_parts Vaae1 Vmalle1 (λ i t e. e) (λ i t e. (and_parts (is_stage1 t.stage) (shares_address i t) e).0) (λ i t e. e) (λ t e. e);
  asid = by_parts Aside1 Vmalle1 (λ i t e. e) (λ i t e. (and_parts (is_stage1 t.stage) (not t.global) e).0) (λ i t e. refl) (λ t e. e);
  stages = by_parts Vmalle1 Vmalls12e1 (λ i t e. e) (λ i t e. refl) (λ i t e. e) (λ t e. e);
  ipa_leaves = by_parts Ipas2le1 Ipas2e1 (λ i t e. e) (λ i t e. e) (λ i t e. e) (λ t e. refl);
  ipa_page = by_parts Ipas2e1 Vmalls12e1 (λ i t e. e) (λ i t e. refl) (λ i t e. e) (λ t e. e);
  vmids = by_parts Vmalls12e1 Alle1 (λ i t e. refl) (λ i t e. e) (λ i t e. e) (λ t e. e);
}
