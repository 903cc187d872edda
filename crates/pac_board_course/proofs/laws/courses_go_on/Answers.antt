use Rattle.pac_board_course.proofs.Whole.{courses-go-on}

pub returns : Rattle.pac_board_course.proofs.laws.courses_go_on.Goals.returns
returns g = courses-go-on
