-- The words of an event are read as that event.
use Rattle.std.proofs.Common.{subst, ◌≡◌, ℕ, ◌<◌, ◌≤◌, ◌^◌, Bool, true, false, ◌&&◌, cond, List, [], ◌∷◌}
use Rattle.std.proofs.Common.{length, Some, None, Result, Ok, Err, refl, sym, ◌∙◌, ap, arith, codes}
use Rattle.std.specs.Prelude.{decimal, nat_lt, bytes_eq, take}
use Rattle.std.proofs.lemmas.Bool.{and_from, cond-true, cond-false, lt-ltb}
use Rattle.sysregs.specs.declared.regs.Reg.{Reg}
use Rattle.sysregs.specs.declared.regs.Reg.TheVariants.{SctlrEl1}
use Rattle.sysregs.specs.declared.regs.Op.{Op}
use Rattle.sysregs.specs.declared.regs.Op.TheVariants.{Vmalle1}
use Rattle.sysregs.specs.Names.{reg_text}
use Rattle.sysregs.specs.Refused.{msr_refused_field}
use Rattle.permissions.specs.declared.bits.El.{El}
use Rattle.permissions.specs.declared.bits.El.TheVariants.{El0, El1}
use Rattle.permissions.specs.declared.bits.Kind.{Kind}
use Rattle.permissions.specs.declared.bits.Kind.TheVariants.{Read, Write, Fetch}
use Rattle.trails.specs.declared.outcome.Access.{Access}
use Rattle.trails.specs.declared.event.Event.{Event}
use Rattle.trails.specs.declared.event.Event.TheVariants.{Store, Msr, Settle, Isb, Tlbi, Dsb, Deliver, Access as AccessOf, Prefetch}
use Rattle.trails.specs.declared.event.Barrier.{Barrier}
use Rattle.trails.specs.declared.event.Barrier.TheVariants.{Nsh, Ish, Sy}
use Rattle.trails.specs.declared.event.Origin.{Origin}
use Rattle.trails.specs.declared.event.Origin.TheVariants.{El1 as FromEl1, El2 as FromEl2}
use Rattle.texts.specs.Numbers.{number_of}
use Rattle.texts.specs.Texts.{hex_text}
use Rattle.trace_lang.specs.declared.refusals.LineRefusal.{LineRefusal}
use Rattle.trace_lang.specs.declared.refusals.LineRefusal.TheVariants.{OutOfRange, NotAtEl1}
use Rattle.sysregs.specs.Ops.{form_of, has_operand}
use Rattle.permissions.specs.AccessNames.{el_text, kind_text, el_of, kind_of}
use Rattle.phys_mem.specs.Memory.{is_aligned}
use Rattle.trace_lang.specs.Traces.{Header, EventFits, core_of, is_within, may_issue}
use Rattle.texts.specs.Results.{◌>>=◌}
use Rattle.trace_lang.specs.Words.{word_or, number_or, in_range, number_at, name_at, no_word_at, named}
use Rattle.trace_lang.specs.Events.{Verb, store, msr, settle, isb, tlbi, dsb, deliver, access, prefetch, event_of, event_by, core_at, place_at}
use Rattle.trace_lang.specs.Events.{operand_at, access_at, pan_at, supported_by, allowed_from, reg_names, op_names, origins, barriers}
use Rattle.trace_lang.specs.Limits.{HasWords}
use Rattle.trace_lang.specs.Canonical.{op_word, origin_text, barrier_text, event_words}
use Rattle.trace_lang.proofs.Spaced.{is_word, AreWords}
use Rattle.trace_lang.proofs.Numerals.{hex_back, hex_word, decimal_back, decimal_word}

-- what follows a value
pub go : {A B : Type 0} (r : Result A LineRefusal) (x : A) (f : A → Result B LineRefusal) → r ≡ Ok x → (r >>= f) ≡ f x
go r x f e = ap (λ r. r >>= f) e

pub within : (place : ℕ) (passes : Bool) (n : ℕ) → passes ≡ true → in_range place passes n ≡ Ok n
within place passes n h = cond-true passes (Ok n) (Err (OutOfRange place)) h

pub hex_at : (place n : ℕ) → n < 2 ^ 64 → number_or place (number_of (hex_text n)) ≡ Ok n
hex_at place n l = ap (number_or place) (hex_back n l)

pub decimal_at : (place n : ℕ) → n ≤ 8 → number_or place (number_of (decimal n)) ≡ Ok n
decimal_at place n l = ap (number_or place) (decimal_back n l)

-- NAMES

reg_back : (reg : Reg) → named reg_names (reg_text reg) ≡ Some reg
reg_back SctlrEl1 = refl
reg_back reg = refl

op_back : (op : Op) (shared : Bool) → named op_names (op_word op shared) ≡ Some (op, shared)
op_back Vmalle1 true = refl
op_back Vmalle1 false = refl
op_back op true = refl
op_back op false = refl

origin_back : (from : Origin) → named origins (origin_text from) ≡ Some from
origin_back FromEl1 = refl
origin_back FromEl2 = refl

barrier_back : (kind : Barrier) → named barriers (barrier_text kind) ≡ Some kind
barrier_back Nsh = refl
barrier_back Ish = refl
barrier_back Sy = refl

el_back : (el : El) → el_of (el_text el) ≡ Some el
el_back El0 = refl
el_back El1 = refl

kind_back : (kind : Kind) → kind_of (kind_text kind) ≡ Some kind
kind_back Read = refl
kind_back Write = refl
kind_back Fetch = refl

reg_word : (reg : Reg) → is_word (reg_text reg) ≡ true
reg_word SctlrEl1 = refl
reg_word reg = refl

op_is_word : (op : Op) (shared : Bool) → is_word (op_word op shared) ≡ true
op_is_word Vmalle1 true = refl
op_is_word Vmalle1 false = refl
op_is_word op true = refl
op_is_word op false = refl

origin_word : (from : Origin) → is_word (origin_text from) ≡ true
origin_word FromEl1 = refl
origin_word FromEl2 = refl

barrier_word : (kind : Barrier) → is_word (barrier_text kind) ≡ true
barrier_word Nsh = refl
barrier_word Ish = refl
barrier_word Sy = refl

el_word : (el : El) → is_word (el_text el) ≡ true
el_word El0 = refl
el_word El1 = refl

kind_word : (kind : Kind) → is_word (kind_text kind) ≡ true
kind_word Read = refl
kind_word Write = refl
kind_word Fetch = refl

-- EVENTS

core_back : (h : Header) (v : List ℕ) (c : ℕ) (ws : List (List ℕ)) → c < h.cores → h.cores ≤ 8 → core_at h (v ∷ decimal c ∷ ws) ≡ Ok c
core_back h v c ws l m = go (number_or 2 (number_of (decimal c))) c (λ c. in_range 2 (nat_lt c h.cores) c) (decimal_at 2 c (omega (arith, l, m)))
    ∙ within 2 (nat_lt c h.cores) c (lt-ltb c h.cores l)

place_back : (h : Header) (v c : List ℕ) (p : ℕ) (ws : List (List ℕ)) → p < 2 ^ 64 → is_aligned p ≡ true → is_within h.ranges p ≡ true →
    place_at h (v ∷ c ∷ hex_text p ∷ ws) ≡ Ok p
place_back h v c p ws l a b =
    go (number_or 3 (number_of (hex_text p))) p (λ p. in_range 3 (is_aligned p && is_within h.ranges p) p) (hex_at 3 p l)
    ∙ within 3 (is_aligned p && is_within h.ranges p) p (and_from (is_aligned p) (is_within h.ranges p) a b)

operand_back : (op : Op) (b : Bool) (v c from o : List ℕ) (n : ℕ) → has_operand (form_of op).scope ≡ b → n < 2 ^ 64 → (b ≡ false → n ≡ 0) →
    operand_at op (v ∷ c ∷ from ∷ o ∷ cond b (hex_text n ∷ []) []) ≡ Ok n
operand_back op true v c from o n e l k =
    cond-true (has_operand (form_of op).scope) _ _ e
    ∙ go (number_or 5 (number_of (hex_text n))) n (λ n. no_word_at (v ∷ c ∷ from ∷ o ∷ hex_text n ∷ []) 6 >>= (λ _. Ok n)) (hex_at 5 n l)
operand_back op false v c from o n e l k = cond-false (has_operand (form_of op).scope) _ _ e ∙ ap Ok (sym (k refl))

pan_back : (pan : Bool) (v c el kind va : List ℕ) → pan_at (v ∷ c ∷ el ∷ kind ∷ va ∷ cond pan (codes "pan" ∷ []) []) ≡ Ok pan
pan_back true v c el kind va = refl
pan_back false v c el kind va = refl

-- what holds of an event that is read back
pub record IsBack (h : Header) (e : Event) : Type 0 where
  pub fits : EventFits h e
  pub words : HasWords e

-- the words behind the core's number
by_back : (h : Header) (e : Event) (verb : Verb) → event_by h (event_words e) (core_of e) verb ≡ Ok e → (v : List ℕ) (ws : List (List ℕ)) →
    event_words e ≡ v ∷ decimal (core_of e) ∷ ws →
    core_of e < h.cores → h.cores ≤ 8 → (core_at h (event_words e) >>= (λ c. event_by h (event_words e) c verb)) ≡ Ok e
by_back h e verb k v ws w l m =
    go (core_at h (event_words e)) (core_of e) (λ c. event_by h (event_words e) c verb) (ap (core_at h) w ∙ core_back h v (core_of e) ws l m) ∙ k

store_back : (h : Header) (c p v : ℕ) → p < 2 ^ 64 → v < 2 ^ 64 → is_aligned p ≡ true → is_within h.ranges p ≡ true →
    event_by h (event_words (Store c p v)) c store ≡ Ok (Store c p v)
store_back h c p v l m a b =
    let ws = event_words (Store c p v) in
    go (place_at h ws) p (λ p. number_at ws 4 >>= (λ v. no_word_at ws 5 >>= (λ _. Ok (Store c p v))))
    (place_back h (codes "store") (decimal c) p (hex_text v ∷ []) l a b)
    ∙ go (number_or 4 (number_of (hex_text v))) v (λ v. no_word_at ws 5 >>= (λ _. Ok (Store c p v))) (hex_at 4 v m)

msr_back : (h : Header) (c : ℕ) (reg : Reg) (v : ℕ) → v < 2 ^ 64 → msr_refused_field reg v ≡ None →
    event_by h (event_words (Msr c reg v)) c msr ≡ Ok (Msr c reg v)
msr_back h c reg v l f =
    let ws = event_words (Msr c reg v) in
    go (word_or 3 (named reg_names (reg_text reg))) reg (λ reg.
    number_at ws 4 >>= (λ v. no_word_at ws 5 >>= (λ _. supported_by reg (msr_refused_field reg v) (Msr c reg v)))) (ap (word_or 3) (reg_back reg))
    ∙ go (number_or 4 (number_of (hex_text v))) v (λ v. no_word_at ws 5 >>= (λ _. supported_by reg (msr_refused_field reg v) (Msr c reg v))) (hex_at 4 v l)
    ∙ ap (λ o. supported_by reg o (Msr c reg v)) f

tlbi_back : (h : Header) (c : ℕ) (from : Origin) (op : Op) (shared : Bool) (n : ℕ) → n < 2 ^ 64 → may_issue from op ≡ true →
    (has_operand (form_of op).scope ≡ false → n ≡ 0) →
    event_by h (event_words (Tlbi c from op shared n)) c tlbi ≡ Ok (Tlbi c from op shared n)
tlbi_back h c from op shared n l m k =
    let ws = event_words (Tlbi c from op shared n) in
    let last : (from : Origin) (o : Op × Bool) → Result Event LineRefusal =
    λ from o. operand_at o.0 ws >>= (λ n. allowed_from from o.0 (Tlbi c from o.0 o.1 n)) in
    go (word_or 3 (named origins (origin_text from))) from (λ from. name_at (named op_names) ws 4 >>= last from) (ap (word_or 3) (origin_back from))
    ∙ go (word_or 4 (named op_names (op_word op shared))) (op, shared) (last from) (ap (word_or 4) (op_back op shared))
    ∙ go (operand_at op ws) n (λ n. allowed_from from op (Tlbi c from op shared n))
    (operand_back op (has_operand (form_of op).scope) (codes "tlbi") (decimal c) (origin_text from) (op_word op shared) n refl l k)
    ∙ cond-true (may_issue from op) (Ok (Tlbi c from op shared n)) (Err NotAtEl1) m

dsb_back : (h : Header) (c : ℕ) (kind : Barrier) → event_by h (event_words (Dsb c kind)) c dsb ≡ Ok (Dsb c kind)
dsb_back h c kind =
    let ws = event_words (Dsb c kind) in
    go (word_or 3 (named barriers (barrier_text kind))) kind (λ k. no_word_at ws 4 >>= (λ _. Ok (Dsb c k))) (ap (word_or 3) (barrier_back kind))

access_at_back : (v c : List ℕ) (more : List (List ℕ)) (a : Access) → a.va < 2 ^ 64 →
    access_at (v ∷ c ∷ el_text a.el ∷ kind_text a.kind ∷ hex_text a.va ∷ more) ≡ Ok (record a { pan = false })
access_at_back v c more a l =
    let ws = v ∷ c ∷ el_text a.el ∷ kind_text a.kind ∷ hex_text a.va ∷ more in
    let whole : (el : El) (kind : Kind) (va : ℕ) → Result Access LineRefusal = λ el kind va. Ok record { va = va; el = el; kind = kind; pan = false } in
    go (word_or 3 (el_of (el_text a.el))) a.el (λ el. name_at kind_of ws 4 >>= (λ kind. number_at ws 5 >>= whole el kind)) (ap (word_or 3) (el_back a.el))
    ∙ go (word_or 4 (kind_of (kind_text a.kind))) a.kind (λ kind. number_at ws 5 >>= whole a.el kind) (ap (word_or 4) (kind_back a.kind))
    ∙ go (number_or 5 (number_of (hex_text a.va))) a.va (whole a.el a.kind) (hex_at 5 a.va l)

access_back : (h : Header) (c : ℕ) (a : Access) → a.va < 2 ^ 64 → event_by h (event_words (AccessOf c a)) c access ≡ Ok (AccessOf c a)
access_back h c a l =
    let ws = event_words (AccessOf c a) in
    go (access_at ws) (record a { pan = false }) (λ x. pan_at ws >>= (λ pan. Ok (AccessOf c (record x { pan = pan }))))
    (access_at_back (codes "access") (decimal c) (cond a.pan (codes "pan" ∷ []) []) a l)
    ∙ go (pan_at ws) a.pan (λ pan. Ok (AccessOf c (record a { pan = pan })))
    (pan_back a.pan (codes "access") (decimal c) (el_text a.el) (kind_text a.kind) (hex_text a.va))

prefetch_back : (h : Header) (c : ℕ) (a : Access) → a.va < 2 ^ 64 → a.pan ≡ false → event_by h (event_words (Prefetch c a)) c prefetch
    ≡ Ok (Prefetch c a)
prefetch_back h c a l p =
    let ws : Bool → List (List ℕ) = λ pan. codes "prefetch" ∷ decimal c ∷ el_text a.el ∷ kind_text a.kind ∷ hex_text a.va ∷
    cond pan (codes "pan" ∷ []) [] in
    subst (λ pan. event_by h (ws pan) c prefetch ≡ Ok (Prefetch c (record a { pan = pan }))) (sym p)
    (go (access_at (ws false)) (record a { pan = false }) (λ x. no_word_at (ws false) 6 >>= (λ _. Ok (Prefetch c x)))
    (access_at_back (codes "prefetch") (decimal c) [] a l))

pub event_back : (h : Header) (e : Event) → h.cores ≤ 8 → IsBack h e → event_of h (event_words e) ≡ Ok e
event_back h (Store c p v) m b = by_back h (Store c p v) store (store_back h c p v b.words.0 b.words.1 b.fits.1.0 b.fits.1.1) _ _ refl b.fits.0 m
event_back h (Msr c reg v) m b = by_back h (Msr c reg v) msr (msr_back h c reg v b.words b.fits.1) _ _ refl b.fits.0 m
event_back h (Settle c) m b = by_back h (Settle c) settle refl _ _ refl b.fits.0 m
event_back h (Isb c) m b = by_back h (Isb c) isb refl _ _ refl b.fits.0 m
event_back h (Tlbi c from op shared n) m b =
    by_back h (Tlbi c from op shared n) tlbi (tlbi_back h c from op shared n b.words b.fits.1.0 b.fits.1.1) _ _ refl b.fits.0 m
event_back h (Dsb c kind) m b = by_back h (Dsb c kind) dsb (dsb_back h c kind) _ _ refl b.fits.0 m
event_back h (Deliver c) m b = by_back h (Deliver c) deliver refl _ _ refl b.fits.0 m
event_back h (AccessOf c a) m b = by_back h (AccessOf c a) access (access_back h c a b.words) _ _ refl b.fits.0 m
event_back h (Prefetch c a) m b = by_back h (Prefetch c a) prefetch (prefetch_back h c a b.words b.fits.1) _ _ refl b.fits.0 m

operand_words : (b : Bool) (n : ℕ) → n < 2 ^ 64 → AreWords (cond b (hex_text n ∷ []) [])
operand_words true n l = (hex_word n l, tt)
operand_words false n l = tt

pan_words : (pan : Bool) → AreWords (cond pan (codes "pan" ∷ []) [])
pan_words true = (refl, tt)
pan_words false = tt

few_behind : {A : Type 0} (b : Bool) (x : A) → length (cond b (x ∷ []) []) ≤ 1
few_behind true x = omega arith
few_behind false x = omega arith

pub event_are_words : (h : Header) (e : Event) → h.cores ≤ 8 → core_of e < h.cores → HasWords e → AreWords (event_words e)
event_are_words h (Store c p v) m l w = (refl, (decimal_word c (omega (arith, l, m)), (hex_word p w.0, (hex_word v w.1, tt))))
event_are_words h (Msr c reg v) m l w = (refl, (decimal_word c (omega (arith, l, m)), (reg_word reg, (hex_word v w, tt))))
event_are_words h (Settle c) m l w = (refl, (decimal_word c (omega (arith, l, m)), tt))
event_are_words h (Isb c) m l w = (refl, (decimal_word c (omega (arith, l, m)), tt))
event_are_words h (Tlbi c from op shared n) m l w =
    (refl, (decimal_word c (omega (arith, l, m)), (origin_word from, (op_is_word op shared, operand_words (has_operand (form_of op).scope) n w))))
event_are_words h (Dsb c kind) m l w = (refl, (decimal_word c (omega (arith, l, m)), (barrier_word kind, tt)))
event_are_words h (Deliver c) m l w = (refl, (decimal_word c (omega (arith, l, m)), tt))
event_are_words h (AccessOf c a) m l w = (refl, (decimal_word c (omega (arith, l, m)), (el_word a.el, (kind_word a.kind, (hex_word a.va w, pan_words a.pan)))))
event_are_words h (Prefetch c a) m l w = (refl, (decimal_word c (omega (arith, l, m)), (el_word a.el, (kind_word a.kind, (hex_word a.va w, pan_words a.pan)))))

pub few_words : (e : Event) → length (event_words e) ≤ 6
few_words (Store c p v) = omega arith
few_words (Msr c reg v) = omega arith
few_words (Settle c) = omega arith
few_words (Isb c) = omega arith
few_words (Tlbi c from op shared n) = omega (arith, few_behind (has_operand (form_of op).scope) (hex_text n))
few_words (Dsb c kind) = omega arith
few_words (Deliver c) = omega arith
few_words (AccessOf c a) = omega (arith, few_behind a.pan (codes "pan"))
few_words (Prefetch c a) = omega (arith, few_behind a.pan (codes "pan"))

-- the first word of an event is neither a comment nor the end
pub begins : (e : Event) → (v : List ℕ) × (ws : List (List ℕ)) × (event_words e ≡ v ∷ ws) × (bytes_eq (take 1 v) (codes "#") ≡ false)
    × (bytes_eq v (codes "end") ≡ false)
begins (Store c p v) = (_, _, refl, refl, refl)
begins (Msr c reg v) = (_, _, refl, refl, refl)
begins (Settle c) = (_, _, refl, refl, refl)
begins (Isb c) = (_, _, refl, refl, refl)
begins (Tlbi c from op shared n) = (_, _, refl, refl, refl)
begins (Dsb c kind) = (_, _, refl, refl, refl)
begins (Deliver c) = (_, _, refl, refl, refl)
begins (AccessOf c a) = (_, _, refl, refl, refl)
begins (Prefetch c a) = (_, _, refl, refl, refl)
