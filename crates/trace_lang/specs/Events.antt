-- The events of a trace as lines of words. The language is this project's own rule.
use Rattle.std.specs.Prelude.{ℕ, ◌++◌, List, [], ◌∷◌, map, length, Option, Some, None, Bool, true, false, ◌&&◌, nat_lt, codes}
use Rattle.std.specs.Prelude.{if◌then◌else◌, Result, Ok, Err}
use Rattle.sysregs.specs.declared.regs.Reg.{Reg}
use Rattle.sysregs.specs.declared.regs.Reg.TheVariants.{SctlrEl1, TcrEl1, Ttbr0El1, Ttbr1El1, MairEl1, HcrEl2, VtcrEl2, VttbrEl2}
use Rattle.sysregs.specs.declared.regs.Op.{Op}
use Rattle.sysregs.specs.declared.regs.Field.{Field}
use Rattle.sysregs.specs.Names.{reg_text}
use Rattle.sysregs.specs.Ops.{op_text, all_ops, form_of, has_operand}
use Rattle.sysregs.specs.Refused.{msr_refused_field}
use Rattle.permissions.specs.AccessNames.{el_of, kind_of}
use Rattle.trails.specs.declared.outcome.Access.{Access}
use Rattle.trails.specs.declared.event.Event.{Event}
use Rattle.trails.specs.declared.event.Event.TheVariants.{Store, Msr, Settle, Isb, Tlbi, Dsb, Deliver, Access as AccessOf, Prefetch}
use Rattle.trails.specs.declared.event.Barrier.{Barrier}
use Rattle.trails.specs.declared.event.Barrier.TheVariants.{Nsh, Ish, Sy}
use Rattle.trails.specs.declared.event.Origin.{Origin}
use Rattle.trails.specs.declared.event.Origin.TheVariants.{El1 as FromEl1, El2 as FromEl2}
use Rattle.trace_lang.specs.declared.refusals.LineRefusal.{LineRefusal}
use Rattle.trace_lang.specs.declared.refusals.LineRefusal.TheVariants.{Unsupported, NotAtEl1}
use Rattle.phys_mem.specs.Memory.{is_aligned}
use Rattle.trace_lang.specs.Traces.{Header, is_within, may_issue}
use Rattle.texts.specs.Results.{◌>>=◌}
use Rattle.trace_lang.specs.Words.{in_range, number_at, name_at, no_word_at, named}

-- the words that begin an event
pub data Verb : Type 0 where
  store : Verb
  msr : Verb
  settle : Verb
  isb : Verb
  tlbi : Verb
  dsb : Verb
  deliver : Verb
  access : Verb
  prefetch : Verb

abbrev pub verbs : List (List ℕ × Verb)
verbs =
    (codes "store", store) ∷ (codes "msr", msr) ∷ (codes "settle", settle) ∷ (codes "isb", isb) ∷ (codes "tlbi", tlbi)
    ∷ (codes "dsb", dsb) ∷ (codes "deliver", deliver) ∷ (codes "access", access) ∷ (codes "prefetch", prefetch) ∷ []

abbrev pub reg_names : List (List ℕ × Reg)
reg_names =
    map (λ reg. (reg_text reg, reg)) (SctlrEl1 ∷ TcrEl1 ∷ Ttbr0El1 ∷ Ttbr1El1 ∷ MairEl1 ∷ HcrEl2 ∷ VtcrEl2 ∷ VttbrEl2 ∷ [])

-- the local forms, and the forms with IS at their end
abbrev pub op_names : List (List ℕ × (Op × Bool))
op_names = map (λ op. (op_text op, (op, false))) all_ops ++ map (λ op. (op_text op ++ codes "IS", (op, true))) all_ops

abbrev pub origins : List (List ℕ × Origin)
origins = (codes "el1", FromEl1) ∷ (codes "el2", FromEl2) ∷ []

abbrev pub barriers : List (List ℕ × Barrier)
barriers = (codes "nsh", Nsh) ∷ (codes "ish", Ish) ∷ (codes "sy", Sy) ∷ []

-- the number of a core
abbrev pub core_at : (header : Header) (words : List (List ℕ)) → Result ℕ LineRefusal
core_at h ws = number_at ws 2 >>= (λ c. in_range 2 (nat_lt c h.cores) c)

-- the place of a store: a multiple of 8 whose eight bytes lie in one range
abbrev pub place_at : (header : Header) (words : List (List ℕ)) → Result ℕ LineRefusal
place_at h ws = number_at ws 3 >>= (λ p. in_range 3 (is_aligned p && is_within h.ranges p) p)

-- a register write that sets a refused field is refused
abbrev pub supported_by : (reg : Reg) (field : Option Field) → (event : Event) → Result Event LineRefusal
supported_by reg None e = Ok e
supported_by reg (Some f) e = Err (Unsupported record { reg = reg; field = f })

-- an operation that EL1 may not issue
abbrev pub allowed_from : (from : Origin) (op : Op) (event : Event) → Result Event LineRefusal
allowed_from from op e = if may_issue from op then Ok e else Err NotAtEl1

-- the operand of an operation, which is 0 where it has none
abbrev pub operand_at : (op : Op) (words : List (List ℕ)) → Result ℕ LineRefusal
operand_at op ws =
    if has_operand (form_of op).scope then number_at ws 5 >>= (λ n. no_word_at ws 6 >>= (λ _. Ok n)) else no_word_at ws 5 >>= (λ _. Ok 0)

-- an access that is made with PAN clear
abbrev pub access_at : (words : List (List ℕ)) → Result Access LineRefusal
access_at ws =
    name_at el_of ws 3 >>= (λ el. name_at kind_of ws 4 >>= (λ kind. number_at ws 5 >>= (λ va.
    Ok record { va = va; el = el; kind = kind; pan = false })))

-- the word `pan`, which may stand behind an access
abbrev pub pan_at : (words : List (List ℕ)) → Result Bool LineRefusal
pan_at ws = if nat_lt (length ws) 6 then Ok false else name_at (named ((codes "pan", true) ∷ [])) ws 6 >>= (λ p. no_word_at ws 7 >>= (λ _. Ok p))

-- the event of a line that begins so
abbrev pub event_by : (header : Header) (words : List (List ℕ)) (core : ℕ) (verb : Verb) → Result Event LineRefusal
event_by h ws c store = place_at h ws >>= (λ p. number_at ws 4 >>= (λ v. no_word_at ws 5 >>= (λ _. Ok (Store c p v))))
event_by h ws c msr =
    name_at (named reg_names) ws 3 >>= (λ reg. number_at ws 4 >>= (λ v. no_word_at ws 5 >>= (λ _. supported_by reg (msr_refused_field reg v) (Msr c reg v))))
event_by h ws c settle = no_word_at ws 3 >>= (λ _. Ok (Settle c))
event_by h ws c isb = no_word_at ws 3 >>= (λ _. Ok (Isb c))
event_by h ws c tlbi =
    name_at (named origins) ws 3 >>= (λ from. name_at (named op_names) ws 4 >>= (λ o.
    operand_at o.0 ws >>= (λ n. allowed_from from o.0 (Tlbi c from o.0 o.1 n))))
event_by h ws c dsb = name_at (named barriers) ws 3 >>= (λ k. no_word_at ws 4 >>= (λ _. Ok (Dsb c k)))
event_by h ws c deliver = no_word_at ws 3 >>= (λ _. Ok (Deliver c))
event_by h ws c access = access_at ws >>= (λ a. pan_at ws >>= (λ pan. Ok (AccessOf c (record a { pan = pan }))))
event_by h ws c prefetch = access_at ws >>= (λ a. no_word_at ws 6 >>= (λ _. Ok (Prefetch c a)))

-- the event of a line
abbrev pub event_of : (header : Header) (words : List (List ℕ)) → Result Event LineRefusal
event_of h ws = name_at (named verbs) ws 1 >>= (λ verb. core_at h ws >>= (λ c. event_by h ws c verb))
