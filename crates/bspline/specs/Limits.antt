-- The limits of the data: "Who can be refused". Assumes nothing.
use Rattle.std.specs.Prelude.{ℕ, ◌+◌, ◌*◌}
use Rattle.bspline.specs.Recursions.{margin}
use Rattle.bspline.specs.Values.{zoom_count}

-- the longest row
abbrev pub longest_row : ℕ
longest_row = 4096

-- the longest side of a picture
abbrev pub longest_side : ℕ
longest_side = 512

-- the greatest pitch of pixels
abbrev pub greatest_pitch : ℕ
greatest_pitch = 4096

-- the greatest factor
abbrev pub greatest_factor : ℕ
greatest_factor = 16

-- how many values the longest row has at the greatest factor
abbrev pub most_values : ℕ
most_values = zoom_count greatest_factor longest_row

-- the most values of an enlarged picture
abbrev pub most_enlarged : ℕ
most_enlarged = 1048576

-- how many words of work a line of n numbers takes: its own and a margin at each end
abbrev pub work_words : ℕ → ℕ
work_words n = n + 2 * margin
