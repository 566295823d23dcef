-- Worked lists of ranges, computed.
use Rattle.std.proofs.Common.{◌≡◌, [], ◌∷◌, Some, None, refl}
use Rattle.phys_mem.specs.declared.refusal.PhysError.TheVariants.{BadRange, Overlap, TooLarge}
use Rattle.phys_mem.specs.Memory.{zeros, loaded, stored_at}
use Rattle.phys_mem.specs.Ranges.{refusal_of}

no_range : refusal_of [] ≡ None
unfolding refusal_of
no_range = refl

start_within_a_word : refusal_of ((4, 8) ∷ []) ≡ Some (BadRange 0)
unfolding refusal_of
start_within_a_word = refl

-- what is no range counts before an overlap
bad_before_overlap : refusal_of ((0, 16) ∷ (8, 16) ∷ (0, 0) ∷ []) ≡ Some (BadRange 2)
unfolding refusal_of
bad_before_overlap = refl

-- the last word below the end of the physical addresses
last_word : refusal_of ((0xffffffffffff8, 8) ∷ []) ≡ None
unfolding refusal_of
last_word = refl

beyond_the_last_word : refusal_of ((0xffffffffffff8, 16) ∷ []) ≡ Some (BadRange 0)
unfolding refusal_of
beyond_the_last_word = refl

shared_word : refusal_of ((0, 16) ∷ (8, 16) ∷ []) ≡ Some (Overlap 0 1)
unfolding refusal_of
shared_word = refl

-- of two pairs the one whose second comes first
least_second : refusal_of ((0, 8) ∷ (16, 16) ∷ (16, 8) ∷ (0, 8) ∷ []) ≡ Some (Overlap 1 2)
unfolding refusal_of
least_second = refl

most_bytes : refusal_of ((0, 0x4000000) ∷ []) ≡ None
unfolding refusal_of
most_bytes = refl

too_many_bytes : refusal_of ((0, 0x4000008) ∷ []) ≡ Some TooLarge
unfolding refusal_of
too_many_bytes = refl

last_of_a_range : loaded (zeros ((0, 0x1000) ∷ [])) 0xff8 ≡ Some 0
last_of_a_range = refl

behind_a_range : loaded (zeros ((0, 0x1000) ∷ [])) 0x1000 ≡ None
behind_a_range = refl

-- a word that begins in one range and ends in the next is in none
across_two_ranges : zeros ((0, 8) ∷ (8, 8) ∷ []) 4 ≡ None
across_two_ranges = refl

unaligned : loaded (zeros ((0, 0x1000) ∷ [])) 4 ≡ None
unaligned = refl

read_back : loaded (stored_at (zeros ((0, 0x1000) ∷ [])) 8 5) 8 ≡ Some 5
read_back = refl

neighbour_stays : loaded (stored_at (zeros ((0, 0x1000) ∷ [])) 8 5) 16 ≡ Some 0
neighbour_stays = refl
