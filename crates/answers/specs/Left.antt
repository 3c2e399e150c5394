-- What a call leaves behind: its answer, and what the places lent to it hold afterwards. Definitions only.

-- 01, "the contract determines the answer and all lent contents afterwards, refused calls too". B is a list for one lent slice, a pair of lists for two, or the record that was lent
pub record Left (A B : Type 0) : Type 0 where
  pub answer : A
  pub places : B

abbrev pub left : {A B : Type 0} → A → B → Left A B
left a l = record { answer = a; places = l }

-- the same places, and the answer in another form: as a caller or the C boundary gives it on
abbrev pub answered_as : {A B P : Type 0} → (A → B) → Left A P → Left B P
answered_as f l = left (f l.answer) l.places
