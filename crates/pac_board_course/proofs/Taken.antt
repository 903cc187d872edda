-- What a course that was held up has given is among what was left of its run.
use Rattle.pac_board_course.proofs.Common.{CourseValue, Cut, Giving, List, Output, ap, course_after, sym, way_on, way_walked, ℕ, ◌++◌, ◌∙◌}
use mathlib.Core.List.{IsPrefix}
use Rattle.pac_board_course.proofs.Whole.{courses-go-on}

pub refused-among : {S : Type 0} {to : Giving S} {sink later : S} {left : List Output} (course : CourseValue) (tries : ℕ)
    → (cut : Cut to sink (way_walked course tries).outputs left later) → IsPrefix (cut.taken ++ left) (way_on course).outputs
refused-among course tries cut =
    let rest = (way_on (course_after course (way_walked course tries))).outputs in
    (rest, ap (λ outputs. outputs ++ rest) (sym cut.parts) ∙ (courses-go-on course tries).outputs)
