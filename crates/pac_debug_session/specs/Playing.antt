-- For proofs: the run of a session, from its index on, as a course.
use Rattle.pac_board_course.specs.Course.{CourseValue}
use Rattle.pac_debug_session.specs.Running.{now_at}
use Rattle.pac_debug_session.specs.Session.{SessionValue}

abbrev pub course_of : SessionValue → CourseValue
course_of s = record {
  board = record {
    set = s.setting.set;
    state = record { now = now_at s.setting s.index; asked = 0; due = s.due };
    made = s.made;
  };
  script = s.setting.script;
  gone = 0;
}
