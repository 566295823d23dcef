-- The text of a trace: one space between words, decimal numbers of cores, all other numbers as 0x and digits, no line that is
-- skipped. The form is this project's own rule.
use Rattle.std.specs.Prelude.{ℕ, List, [], ◌∷◌, ◌++◌, flat_map, decimal, codes, Bool, if◌then◌else◌}
use Rattle.sysregs.specs.declared.regs.Op.{Op}
use Rattle.sysregs.specs.Names.{reg_text}
use Rattle.sysregs.specs.Ops.{op_text, form_of, has_operand}
use Rattle.permissions.specs.AccessNames.{el_text, kind_text}
use Rattle.trails.specs.declared.outcome.Access.{Access}
use Rattle.trails.specs.declared.event.Event.{Event}
use Rattle.trails.specs.declared.event.Event.TheVariants.{Store, Msr, Settle, Isb, Tlbi, Dsb, Deliver, Access as AccessOf, Prefetch}
use Rattle.trails.specs.declared.event.Barrier.{Barrier}
use Rattle.trails.specs.declared.event.Barrier.TheVariants.{Nsh, Ish, Sy}
use Rattle.trails.specs.declared.event.Origin.{Origin}
use Rattle.trails.specs.declared.event.Origin.TheVariants.{El1 as FromEl1, El2 as FromEl2}
use Rattle.texts.specs.Texts.{hex_text}
use Rattle.trace_lang.specs.declared.header.Size.{Size}
use Rattle.trace_lang.specs.declared.header.Size.TheVariants.{NoRows, Small, Medium, Large}
use Rattle.trace_lang.specs.declared.header.Policy.{Policy}
use Rattle.trace_lang.specs.declared.header.Policy.TheVariants.{Lru, Fifo, Random}
use Rattle.trace_lang.specs.Traces.{Header, Parts}

-- words with one space between them, and the line's end
abbrev pub line_of : (words : List (List ℕ)) → List ℕ
line_of [] = codes "\n"
line_of (w ∷ []) = w ++ codes "\n"
line_of (w ∷ x ∷ words) = w ++ (codes " " ++ line_of (x ∷ words))

abbrev pub size_text : (size : Size) → List ℕ
size_text NoRows = codes "none"
size_text Small = codes "small"
size_text Medium = codes "medium"
size_text Large = codes "large"

abbrev pub policy_words : (policy : Policy) → List (List ℕ)
policy_words Lru = codes "lru" ∷ []
policy_words Fifo = codes "fifo" ∷ []
policy_words (Random start) = codes "random" ∷ hex_text start ∷ []

abbrev pub range_words : (range : ℕ × ℕ) → List (List ℕ)
range_words r = codes "memory" ∷ hex_text r.0 ∷ hex_text r.1 ∷ []

abbrev pub header_text : (header : Header) → List ℕ
header_text h =
    line_of (codes "cores" ∷ decimal h.cores ∷ []) ++ (flat_map (λ r. line_of (range_words r)) h.ranges
    ++ (line_of (codes "caches" ∷ size_text h.size ∷ []) ++ line_of (codes "policy" ∷ policy_words h.policy)))

abbrev pub op_word : (op : Op) (shared : Bool) → List ℕ
op_word op shared = if shared then op_text op ++ codes "IS" else op_text op

abbrev pub origin_text : (from : Origin) → List ℕ
origin_text FromEl1 = codes "el1"
origin_text FromEl2 = codes "el2"

abbrev pub barrier_text : (kind : Barrier) → List ℕ
barrier_text Nsh = codes "nsh"
barrier_text Ish = codes "ish"
barrier_text Sy = codes "sy"

abbrev pub access_words : (access : Access) → List (List ℕ)
access_words a = el_text a.el ∷ kind_text a.kind ∷ hex_text a.va ∷ (if a.pan then codes "pan" ∷ [] else [])

abbrev pub event_words : (event : Event) → List (List ℕ)
event_words (Store core pa value) = codes "store" ∷ decimal core ∷ hex_text pa ∷ hex_text value ∷ []
event_words (Msr core reg value) = codes "msr" ∷ decimal core ∷ reg_text reg ∷ hex_text value ∷ []
event_words (Settle core) = codes "settle" ∷ decimal core ∷ []
event_words (Isb core) = codes "isb" ∷ decimal core ∷ []
event_words (Tlbi core from op shared operand) =
    codes "tlbi" ∷ decimal core ∷ origin_text from ∷ op_word op shared ∷ (if has_operand (form_of op).scope then hex_text operand ∷ [] else [])
event_words (Dsb core kind) = codes "dsb" ∷ decimal core ∷ barrier_text kind ∷ []
event_words (Deliver core) = codes "deliver" ∷ decimal core ∷ []
event_words (AccessOf core access) = codes "access" ∷ decimal core ∷ access_words access
event_words (Prefetch core access) = codes "prefetch" ∷ decimal core ∷ access_words access

-- the canonical text of a trace
abbrev pub text_of : (trace : Parts) → List ℕ
text_of t = header_text t.header ++ (flat_map (λ e. line_of (event_words e)) t.events ++ codes "end\n")
