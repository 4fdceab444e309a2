-- Product: what a row is drawn from: four words of a generator, and what each part of a row is by them.
use Rattle.std.specs.Prelude.{ℕ, ◌+◌, ◌/◌, ◌%◌, ◌==◌, Bool, min}
use Rattle.rand_pcg.specs.{Lcg.Lcg, Pcg.pcg32}
use Rattle.tva_gen.specs.declared.draw.RowWords.{RowWords}

-- the next word, and the state behind it
abbrev pub word_at : Lcg → ℕ
word_at g = (pcg32 g).0

abbrev pub behind_word : Lcg → Lcg
behind_word g = (pcg32 g).1

-- the next four words
unfoldable pub draw_at : Lcg → RowWords
draw_at g = record {
  pause = word_at g;
  from = word_at (behind_word g);
  to = word_at (behind_word (behind_word g));
  rest = word_at (behind_word (behind_word (behind_word g)));
}

-- the state behind four words
unfoldable pub state_behind : Lcg → Lcg
state_behind g = behind_word (behind_word (behind_word (behind_word g)))

-- time grows by less than 100,000 nanoseconds, and not past the horizon
unfoldable pub later : ℕ → ℕ → RowWords → ℕ
later horizon time d = min (time + d.pause % 100000) horizon

-- the number of a word's host among so many
abbrev pub host_number : ℕ → ℕ → ℕ
host_number hosts word = word % hosts

-- at most 1,000 bytes
abbrev pub payload : RowWords → ℕ
payload d = d.rest % 1001

-- one row of eight gives the bytes of a shim
abbrev pub is_raw : RowWords → Bool
is_raw d = d.rest / 65536 % 8 == 0
