use Rattle.pac_board_course.proofs.Begun.{courses-begin}

pub returns : Rattle.pac_board_course.proofs.laws.courses_begin.Goals.returns
returns g = courses-begin
