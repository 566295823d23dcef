-- Words that are kept in pages, of which few are ever set (this project's own way to keep a memory that is mostly 0). A page
-- is 512 words, and a frame is room for the words of one page. Frame 0 is the frame of 0: it stands for every page that has
-- no frame of its own.
use Rattle.std.specs.Prelude.{◌≡◌, ◌≤◌, ◌<◌, ℕ, zero, suc, ◌+◌, ◌*◌, ◌/◌, ◌%◌, List, [], ◌∷◌, length, get_or}

-- a list of so many words from a number on, where each is given by its number
abbrev pub listed : (count first : ℕ) (word : ℕ → ℕ) → List ℕ
listed zero k word = []
listed (suc n) k word = word k ∷ listed n (k + 1) word

-- the word with a number, in the frame of its page
abbrev pub word_at : (frame_of frames : List ℕ) (k : ℕ) → ℕ
word_at frame_of frames k = get_or frames (512 * get_or frame_of (k / 512) 0 + k % 512) 0

-- how many pages have no frame of their own
abbrev pub unframed : (frame_of : List ℕ) → ℕ
unframed [] = 0
unframed (zero ∷ frame_of) = unframed frame_of + 1
unframed (suc n ∷ frame_of) = unframed frame_of

-- the frame of 0 and behind it a frame of its own for some pages, with room for those of the other pages
pub record AreFrames (frame_of frames : List ℕ) (capacity : ℕ) : Type 0 where
  pub whole : length frames % 512 ≡ 0
  pub there : (page : ℕ) → 512 * get_or frame_of page 0 + 512 ≤ length frames
  pub zeros : (place : ℕ) → place < 512 → get_or frames place 0 ≡ 0
  pub own : (page other : ℕ) → 0 < get_or frame_of page 0 → get_or frame_of page 0 ≡ get_or frame_of other 0 → page ≡ other
  pub room : length frames + 512 * unframed frame_of ≤ capacity
