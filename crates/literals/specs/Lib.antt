pub mod Literals
pub mod Reports
pub mod ReportLaws
pub mod Operate
pub mod OperateLaws
